-- `salvage_page::pieces::without_trail` meets its contract. Assumes nothing.
use Rattle.std.proofs.Common.{rules}
use borrow.Author.Tests.{not-true, not-false}
use Rattle.salvage_page.proofs.Sums.{front_length}
use Rattle.salvage_page.proofs.pieces.without_trail.Goals as goal

pub returns-then-not-trail : goal.returns-then-not-trail
returns-then-not-trail c = rw c.if-not-trail.true

pub slice_bounds-result-end : goal.slice_bounds-result-end
slice_bounds-result-end c = front_length _ _ c.kept_values-n.ensures.inside

pub returns : goal.returns
returns c =
    rw c.if-not-trail.false c.kept_values-n.ensures.values
