-- `index_search::scan` meets its contract. Assumes nothing.
use borrow.Author.Tests.{lt-ltb, le-ltb}
use Rattle.index_search.specs.Search.{scanned}
use Rattle.index_search.proofs.scan.Goals as goal

pub returns-then-g-s : goal.returns-then-g-s
unfolding scanned
returns-then-g-s c = simp (lt-ltb _ _ c.if-g-s.true)

pub returns-else-g-s : goal.returns-else-g-s
unfolding scanned
returns-else-g-s c = simp (le-ltb _ _ c.if-g-s.false)
