-- `head_fields::right_length` meets its contract. Assumes nothing.
use borrow.Author.Tests.{le-leb, lt-leb}
use Rattle.head_fields.specs.Right.{right_length}
use Rattle.head_fields.proofs.right_length.Goals as goal

pub returns-then-extends : goal.returns-then-extends
unfolding right_length
returns-then-extends c = rw (le-leb 2 _ c.if-extends.true)

pub returns : goal.returns
unfolding right_length
returns c = rw (lt-leb 2 _ c.if-extends.false)
