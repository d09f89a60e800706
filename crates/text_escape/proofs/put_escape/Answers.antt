-- `text_escape::put_escape` meets its contract: two backslashes, or four stores. Assumes nothing.
use mathlib.Core.Path.{refl}
use Prim.Native.Nat.{◌+◌, ◌≤◌}
use native.Mathlib.Omega.{arith}
use lib.ListN.{length, length-set}
use Rattle.text_put.proofs.Laying.{four_stores, laid_as}
use Rattle.text_escape.proofs.Escaping.{escape_backslash, escape_other}
use Rattle.text_escape.proofs.put_escape.Goals as goal

-- there is room for four bytes
room : (c : goal.After-hex_digit-low) → let a = c.args in a.at + 4 ≤ length a.out.now
room c =
    rw (escape_other c.args.b _ _ c.if-b-eq92.false refl refl) at c.requires

pub returns-then-b-eq92 : goal.returns-then-b-eq92
returns-then-b-eq92 c = laid_as 2 (escape_backslash _ c.if-b-eq92.true) refl c.copy_at.ensures

pub bounds-out-at : goal.bounds-out-at
bounds-out-at c = omega (arith, room c)

pub overflow_add-out : goal.overflow_add-out
overflow_add-out c = omega (arith, room c)

pub bounds-out-at-2 : goal.bounds-out-at-2
bounds-out-at-2 c = simp length-set (omega (arith, room c))

pub overflow_add-out-2 : goal.overflow_add-out-2
overflow_add-out-2 c = omega (arith, room c)

pub bounds-out-at-3 : goal.bounds-out-at-3
bounds-out-at-3 c = simp length-set (omega (arith, room c))

pub overflow_add-out-3 : goal.overflow_add-out-3
overflow_add-out-3 c = omega (arith, room c)

pub bounds-out-at-4 : goal.bounds-out-at-4
bounds-out-at-4 c = simp length-set (omega (arith, room c))

pub overflow_add-result-2 : goal.overflow_add-result-2
overflow_add-result-2 c = omega (arith, room c)

pub returns : goal.returns
returns c =
    laid_as 4 (escape_other c.args.b _ _ c.if-b-eq92.false c.hex_digit-high.ensures c.hex_digit-low.ensures) refl
    (four_stores _ _ _ _ _ _ (room c))
