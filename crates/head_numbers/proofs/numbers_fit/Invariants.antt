-- `head_numbers::numbers_fit` meets its contract. The loop's invariant: what is left decides. Assumes nothing.
use mathlib.Core.Path.{◌≡◌}
use Prim.Native.Nat.{◌-◌, ◌≤◌}
use lib.ListN.{drop}
use Rattle.head_numbers.specs.Numbers.{bounds as widths, all_below, fitting}
use Rattle.head_numbers.proofs.numbers_fit.Given as goal

abbrev pub invariant-loop-i : goal.invariant-loop-i
invariant-loop-i l = (all_below (drop l.i widths) (drop l.i l.fields) ≡ fitting l.fields) × (l.i ≤ 8)

abbrev pub decreases-loop-i : goal.decreases-loop-i
decreases-loop-i l = 8 - l.i
