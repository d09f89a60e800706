-- All steps from where a turn begins end where all steps of the search end. Assumes nothing.
use mathlib.Core.Path.{◌≡◌}
use Rattle.index_search.specs.Search.{left, finish}
use Rattle.index_columns.proofs.run.Given as goal

abbrev pub invariant-loop-t : goal.invariant-loop-t
invariant-loop-t l = finish l.granules l.t ≡ finish l.granules l.initial.t

abbrev pub decreases-loop-t : goal.decreases-loop-t
decreases-loop-t l = left l.t
