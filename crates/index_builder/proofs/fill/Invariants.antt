-- What a turn finds left of the stream fills the list as the whole stream does. Assumes nothing.
use Prim.Native.Nat.{◌-◌}
use lib.ListN.{length}
use Rattle.index_builder.specs.Filling.{filled_from}
use Rattle.index_builder.proofs.Filling.{Filling}
use Rattle.index_builder.proofs.fill.Given as goal

abbrev pub invariant-loop-w : goal.invariant-loop-w
invariant-loop-w l = Filling l.stream (filled_from l.stream l.from l.initial.records) l.w l.records

abbrev pub decreases-loop-w : goal.decreases-loop-w
decreases-loop-w l = length l.stream - l.w.at
