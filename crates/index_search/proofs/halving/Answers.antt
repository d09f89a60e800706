-- `index_search::halving` meets its contract. Assumes nothing.
use borrow.Author.Tests.{lt-ltb, le-ltb}
use Rattle.index_search.specs.Search.{halving_of}
use Rattle.index_search.proofs.halving.Goals as goal

pub returns-then-target-lt-PRE_ROLL : goal.returns-then-target-lt-PRE_ROLL
unfolding halving_of
returns-then-target-lt-PRE_ROLL c = rw (c.in-None.is, lt-ltb _ _ c.if-target-lt-PRE_ROLL.true) c.halving_among-then-target-lt-PRE_ROLL.ensures

pub returns-in-Some : goal.returns-in-Some
unfolding halving_of
returns-in-Some c = rw c.in-Some.is c.halving_among.ensures

pub returns-else-target-lt-PRE_ROLL : goal.returns-else-target-lt-PRE_ROLL
unfolding halving_of
returns-else-target-lt-PRE_ROLL c = rw (c.in-None.is, le-ltb _ _ c.if-target-lt-PRE_ROLL.false) c.halving_among-in-None.ensures
