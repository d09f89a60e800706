-- `index_search::halve` meets its contract. Assumes nothing.
use native.Mathlib.Omega.{arith}
use borrow.Author.Tests.{le-leb, lt-leb}
use Rattle.index_search.specs.Search.{halved}
use Rattle.index_search.proofs.Steps.{place-within}
use Rattle.index_search.proofs.halve.Goals as goal

pub overflow_add-result : goal.overflow_add-result
overflow_add-result c =
    omega (arith, place-within c.args.s c.requires)

pub returns-then-s-g : goal.returns-then-s-g
unfolding halved
returns-then-s-g c =
    simp
    (lt-leb _ _ c.if-s-g.true, c.place-at.ensures, c.saturating_add-probes.ensures)

pub returns-else-s-g : goal.returns-else-s-g
unfolding halved
returns-else-s-g c =
    simp
    (le-leb _ _ c.if-s-g.false, c.place-at.ensures, c.saturating_add-probes.ensures)
