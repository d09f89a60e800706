-- The first fall from where a turn begins is the first of all. Assumes nothing.
use mathlib.Core.Path.{◌≡◌}
use Prim.Native.Nat.{◌-◌}
use lib.ListN.{length}
use Rattle.index_search.specs.Index.{first_fall}
use Rattle.index_columns.proofs.Falling.{fall_from}
use Rattle.index_columns.proofs.first_fall.Given as goal

abbrev pub invariant-loop-i : goal.invariant-loop-i
invariant-loop-i l = fall_from l.granules l.i l.before ≡ first_fall l.granules

abbrev pub decreases-loop-i : goal.decreases-loop-i
decreases-loop-i l = length l.granules - l.i
