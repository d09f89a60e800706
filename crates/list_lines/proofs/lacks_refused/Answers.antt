-- `list_lines::lacks_refused` meets its contract. Assumes nothing.
use mathlib.Core.Path.{ap, ◌∙◌}
use Prim.Native.Nat.{ℕ, ◌+◌}
use native.Mathlib.Omega.{arith}
use lib.Dec.{ltb}
use Rattle.list_lines.proofs.Lines.{length-refused}
use Rattle.list_lines.proofs.lacks_refused.Goals as goal

pub digits_of-requires : goal.digits_of-requires
digits_of-requires c = tt

pub overflow_add-digits_of : goal.overflow_add-digits_of
overflow_add-digits_of c = omega arith

pub digits_of-requires-2 : goal.digits_of-requires-2
digits_of-requires-2 c = tt

pub overflow_add-digits_of-2 : goal.overflow_add-digits_of-2
overflow_add-digits_of-2 c = omega arith

pub is_short-requires : goal.is_short-requires
is_short-requires c = tt

pub returns : goal.returns
returns c =
    let a = c.args in
    c.is_short.ensures ∙ ap (λ (n : ℕ). ltb a.len (a.at + n)) (omega (arith, length-refused a.number a.page))
