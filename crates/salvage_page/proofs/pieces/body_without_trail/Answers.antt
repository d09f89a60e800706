-- `salvage_page::pieces::body_without_trail` meets its contract. Assumes nothing.
use Rattle.std.proofs.Common.{rules}
use borrow.Author.Tests.{not-true, not-false}
use Rattle.salvage_page.proofs.pieces.body_without_trail.Goals as goal

pub returns-then-not-trail : goal.returns-then-not-trail
returns-then-not-trail c = rw c.if-not-trail.true

pub returns : goal.returns
returns c =
    rw (c.if-not-trail.false, c.part_of.ensures, c.kept_bytes.ensures)
