-- `list_entries::put_entries` meets its contract. The loop's invariant: i lines are put, and what is kept of the last one is
-- sound. Assumes nothing.
use Prim.Native.Nat.{◌-◌}
use Rattle.list_entries.specs.Code.{Sound}
use Rattle.list_entries.proofs.Lines.{Done}
use Rattle.list_entries.proofs.put_entries.Given as goal

abbrev pub invariant-loop-i : goal.invariant-loop-i
invariant-loop-i l = Done l.initial.out l.at l.ends l.lengths l.frames l.kept l.out l.place l.i × Sound l.repeat

abbrev pub decreases-loop-i : goal.decreases-loop-i
decreases-loop-i l = l.n - l.i
