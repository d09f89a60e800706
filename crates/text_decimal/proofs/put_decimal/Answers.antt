-- `text_decimal::put_decimal` meets its contract. Assumes nothing.
use mathlib.Core.Path.{sym, ◌∙◌}
use Prim.Native.Nat.{◌+◌, ◌≤◌}
use native.Mathlib.Omega.{arith}
use borrow.Author.Tests.{ltb-true, ltb-false}
use lib.ListN.{length}
use Rattle.text_put.proofs.Putting.{put-laid, put-nothing}
use Rattle.text_decimal.specs.Decimal.{decimal}
use Rattle.text_decimal.proofs.put_decimal.Goals as goal

pub lacks_digits-requires : goal.lacks_digits-requires
lacks_digits-requires c = omega arith

pub returns-then-lacks_digits : goal.returns-then-lacks_digits
returns-then-lacks_digits c =
    let a = c.args in
    let short = ltb-true (length a.out.now) (a.at + (length (decimal a.x) + 0)) (sym c.lacks_digits.ensures ∙ c.if-lacks_digits.true) in
    put-nothing (omega arith)

pub lay_decimal-requires : goal.lay_decimal-requires
lay_decimal-requires c =
    -- the digits fit
    let fits : let a = c.args in a.at + length (decimal a.x) ≤ length a.out.now = let a = c.args in
    let test = ltb-false (length a.out.now) (a.at + (length (decimal a.x) + 0)) (sym c.lacks_digits.ensures ∙ c.if-lacks_digits.false) in
    omega arith in
    fits

pub returns : goal.returns
returns c =
    let fits : let a = c.args in a.at + length (decimal a.x) ≤ length a.out.now = let a = c.args in
    let test = ltb-false (length a.out.now) (a.at + (length (decimal a.x) + 0)) (sym c.lacks_digits.ensures ∙ c.if-lacks_digits.false) in
    omega arith in
    put-laid fits c.lay_decimal.ensures
