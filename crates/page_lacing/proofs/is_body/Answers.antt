-- `page_lacing::is_body` meets its contract. Assumes nothing.
use borrow.Author.Tests.{lt-leb, le-leb}
use lib.Seq.{take_all}
use Rattle.page_lacing.specs.Lacing.{is_body}
use Rattle.page_lacing.proofs.is_body.Goals as goal

pub returns-then-few : goal.returns-then-few
unfolding is_body
returns-then-few c = rw (le-leb _ _ c.if-few.true, c.sum_of.ensures.sum, take_all 255 _ c.if-few.true)

pub returns-else-few : goal.returns-else-few
unfolding is_body
returns-else-few c = rw (lt-leb _ _ c.if-few.false)
