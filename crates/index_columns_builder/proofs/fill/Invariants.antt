-- What a turn finds left of the stream fills the lists as the whole stream does. Assumes nothing.
use Prim.Native.Nat.{◌-◌, ◌<◌, ◌^◌}
use lib.ListN.{length}
use native.Mathlib.Omega.{arith}
use borrow.Author.Rules.{rules}
use Rattle.index_walk.proofs.Walking.{nearer}
use Rattle.index_columns_builder.proofs.Filling.{Filled, ends, counted, filled_begins, filled_goes_on}
use Rattle.index_columns_builder.proofs.fill.Given as goal

abbrev pub invariant-loop-w : goal.invariant-loop-w
invariant-loop-w l = Filled l.stream l.initial.granules l.initial.places l.initial.sequences l.w l.granules l.places l.sequences

abbrev pub decreases-loop-w : goal.decreases-loop-w
decreases-loop-w l = length l.stream - l.w.at
