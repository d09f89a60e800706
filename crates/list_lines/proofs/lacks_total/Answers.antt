-- `list_lines::lacks_total` meets its contract. Assumes nothing.
use mathlib.Core.Path.{ap, ◌∙◌}
use Prim.Native.Nat.{ℕ, ◌+◌}
use native.Mathlib.Omega.{arith}
use lib.Dec.{ltb}
use Rattle.list_lines.proofs.Lines.{length-total}
use Rattle.list_lines.proofs.lacks_total.Goals as goal

pub digits_of-requires : goal.digits_of-requires
digits_of-requires c = tt

pub overflow_add-digits_of : goal.overflow_add-digits_of
overflow_add-digits_of c = omega arith

pub digits_of-requires-2 : goal.digits_of-requires-2
digits_of-requires-2 c = tt

pub overflow_add-digits_of-2 : goal.overflow_add-digits_of-2
overflow_add-digits_of-2 c = omega arith

pub digits_of-requires-3 : goal.digits_of-requires-3
digits_of-requires-3 c = tt

pub overflow_add-digits_of-3 : goal.overflow_add-digits_of-3
overflow_add-digits_of-3 c = omega arith

pub digits_of-requires-4 : goal.digits_of-requires-4
digits_of-requires-4 c = tt

pub overflow_add-digits_of-4 : goal.overflow_add-digits_of-4
overflow_add-digits_of-4 c = omega arith

pub is_short-requires : goal.is_short-requires
is_short-requires c = tt

pub returns : goal.returns
returns c =
    let a = c.args in
    c.is_short.ensures ∙ ap (λ (n : ℕ). ltb a.len (a.at + n)) (omega (arith, length-total a.kept a.skipped a.trimmed a.hole))
