-- `index_search::place` meets its contract. Assumes nothing.
use Rattle.index_search.specs.Search.{place_of}
use Rattle.index_search.proofs.place.Goals as goal

pub returns-then-s : goal.returns-then-s
unfolding place_of
returns-then-s c = rw (c.saturating_sub-rest.ensures, c.if-s.true)

pub returns-else-s : goal.returns-else-s
unfolding place_of
returns-else-s c = rw c.if-s.false
