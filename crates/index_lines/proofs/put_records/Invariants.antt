-- `index_lines::put_records` meets its contract. The loop's invariant: i lines are put. Assumes nothing.
use Prim.Native.Nat.{◌-◌}
use Rattle.index_lines.proofs.Records.{Done}
use Rattle.index_lines.proofs.put_records.Given as goal

abbrev pub invariant-loop-i : goal.invariant-loop-i
invariant-loop-i l = Done l.initial.out l.at l.granules l.places l.sequences l.out l.next l.i

abbrev pub decreases-loop-i : goal.decreases-loop-i
decreases-loop-i l = l.n - l.i
