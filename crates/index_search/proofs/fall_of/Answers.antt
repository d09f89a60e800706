-- `index_search::fall_of` meets its contract. Assumes nothing.
use borrow.Author.Tests.{lt-ltb, le-ltb}
use Rattle.index_search.proofs.fall_of.Goals as goal

pub returns-then-s-n : goal.returns-then-s-n
returns-then-s-n c = simp (lt-ltb _ _ c.if-s-n.true)

pub returns-else-s-n : goal.returns-else-s-n
returns-else-s-n c = simp (le-ltb _ _ c.if-s-n.false)
