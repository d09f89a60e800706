-- `number_reader::number_at` meets its contract. The loop's invariant: x is the number in the bytes from the i-th on. Assumes nothing.
use mathlib.Core.Path.{◌≡◌}
use Prim.Native.Nat.{◌+◌, ◌-◌, ◌^◌, ◌<◌}
use lib.ListN.{take, drop}
use Rattle.octets.specs.Numbers.{value}
use Rattle.number_reader.proofs.number_at.Given as goal

abbrev pub invariant-loop-i : goal.invariant-loop-i
invariant-loop-i l = (l.x ≡ value (take (l.n - l.i) (drop (l.at + l.i) l.s))) × (l.x < 256 ^ (l.n - l.i))
