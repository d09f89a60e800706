-- `text_decimal::digits_of` meets its contract. The loop's invariant: n, and the digits of what is left but one. Assumes nothing.
use mathlib.Core.Path.{◌≡◌}
use Prim.Native.Nat.{◌+◌, ◌≤◌}
use lib.ListN.{length}
use Rattle.text_decimal.specs.Decimal.{decimal}
use Rattle.text_decimal.proofs.digits_of.Given as goal

abbrev pub invariant-loop-rest : goal.invariant-loop-rest
invariant-loop-rest l = (l.n + length (decimal l.rest) ≡ length (decimal l.x) + 1) × (length (decimal l.x) ≤ 20)

abbrev pub decreases-loop-rest : goal.decreases-loop-rest
decreases-loop-rest l = l.rest
