-- `buffers::move_down` meets its contract: a byte goes to no place above its own. Assumes nothing.
use Prim.Native.Nat.{◌-◌, ◌≤◌}
use Rattle.buffers.proofs.Moving.{Moving}
use Rattle.buffers.proofs.move_down.Given as goal

abbrev pub invariant-loop-i : goal.invariant-loop-i
invariant-loop-i l = Moving l.initial.buffer l.from l.buffer (l.i - l.from) × (l.i - l.from ≤ l.end - l.from)
