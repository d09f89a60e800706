-- `text_put::put_bytes` meets its contract. Assumes nothing.
use mathlib.Core.Path.{refl, sym, ◌∙◌}
use Prim.Native.Nat.{◌+◌, ◌≤◌}
use native.Mathlib.Omega.{arith}
use lib.ListN.{length}
use Rattle.octets.proofs.Tests.{not-below}
use Rattle.text_put.proofs.Laying.{laid_as, put_all, put-none}
use Rattle.text_put.proofs.put_bytes.Goals as goal

pub returns-then-is_short : goal.returns-then-is_short
returns-then-is_short c = put-none (sym c.is_short.ensures ∙ c.if-is_short.true)

pub overflow_add-result : goal.overflow_add-result
overflow_add-result c =
    let a = c.args in
    let room : a.at + length a.s.now ≤ length a.out.now = not-below c.is_short.ensures c.if-is_short.false in
    omega arith

pub returns : goal.returns
returns c =
    put_all (sym c.is_short.ensures ∙ c.if-is_short.false) (laid_as _ refl refl c.copy_at.ensures)
