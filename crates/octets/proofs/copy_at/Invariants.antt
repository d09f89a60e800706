-- `octets::copy_at` meets its contract. The loop's invariant: the first j bytes have been copied. Assumes nothing.
use mathlib.Core.Path.{◌≡◌}
use Prim.Native.Nat.{◌+◌, ◌≤◌}
use lib.ListN.{length}
use lib.Seq.{paste}
use Rattle.octets.proofs.copy_at.Given as goal

abbrev pub invariant-loop-j : goal.invariant-loop-j
invariant-loop-j l = (l.d ≡ paste l.initial.d l.at l.s l.j) × (length l.d ≡ length l.initial.d) × (l.at + length l.s ≤ length l.initial.d)
