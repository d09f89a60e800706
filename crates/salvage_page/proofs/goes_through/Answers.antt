-- `salvage_page::goes_through` meets its contract. Assumes nothing.
use Rattle.std.proofs.Common.{rules}
use borrow.Author.Tests.{not-true, not-false}
use Rattle.salvage_page.proofs.goes_through.Goals as goal

pub returns-then-not-continued : goal.returns-then-not-continued
returns-then-not-continued c = rw c.if-not-continued.true

pub returns : goal.returns
returns c = rw (c.if-not-continued.false, c.has_end.ensures)
