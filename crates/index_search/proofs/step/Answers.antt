-- `index_search::step` meets its contract. Assumes nothing.
use borrow.Author.Tests.{lt-ltb, le-ltb}
use Rattle.index_search.specs.Search.{step_of}
use Rattle.index_search.proofs.step.Goals as goal

pub returns-then-s-2 : goal.returns-then-s-2
unfolding step_of
returns-then-s-2 c = simp (lt-ltb _ _ c.if-s.true, c.if-s-2.true) c.halve.ensures

pub returns-else-s-2 : goal.returns-else-s-2
unfolding step_of
returns-else-s-2 c = simp (lt-ltb _ _ c.if-s.true, c.if-s-2.false) c.scan.ensures

pub returns-else-s : goal.returns-else-s
unfolding step_of
returns-else-s c = simp (le-ltb _ _ c.if-s.false)
