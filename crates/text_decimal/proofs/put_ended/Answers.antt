-- `text_decimal::put_ended` meets its contract: three digits and the byte in one word, or a store right after the digits.
-- Assumes nothing.
use mathlib.Core.Path.{refl, sym, ap, ◌∙◌}
use Prim.Native.Nat.{◌+◌, ◌≤◌}
use native.Mathlib.Omega.{arith}
use borrow.Author.Tests.{ltb-true, ltb-false}
use lib.ListN.{length}
use Rattle.octets.proofs.Numbers.{length-octets}
use Rattle.text_put.proofs.Laying.{one_store, laid_as, laid_next}
use Rattle.text_put.proofs.Putting.{put-laid, put-nothing}
use Rattle.text_decimal.specs.Decimal.{decimal}
use Rattle.text_decimal.proofs.Decimal.{length-ended, decimal-three}
use Rattle.text_decimal.proofs.put_ended.Goals as goal

pub lacks_digits-requires : goal.lacks_digits-requires
lacks_digits-requires c = omega arith

pub returns-then-lacks_digits : goal.returns-then-lacks_digits
returns-then-lacks_digits c =
    let a = c.args in
    let short = ltb-true (length a.out.now) (a.at + (length (decimal a.x) + 1)) (sym c.lacks_digits.ensures ∙ c.if-lacks_digits.true) in
    put-nothing (omega (arith, length-ended a.x a.b))

pub put_word-requires : goal.put_word-requires
put_word-requires c =
    -- the digits and the byte fit
    let fits : let a = c.args in a.at + length (decimal a.x) + 1 ≤ length a.out.now = let a = c.args in
    let test = ltb-false (length a.out.now) (a.at + (length (decimal a.x) + 1)) (sym c.lacks_digits.ensures ∙ c.if-lacks_digits.false) in
    omega arith in
    -- there is room for a word
    let word_fits : let a = c.args in a.at + 4 ≤ length a.out.now = let x = c.args.x in
    omega (arith, fits, ap length (decimal-three x (omega arith) (omega arith))) in
    word_fits

pub overflow_add-result : goal.overflow_add-result
overflow_add-result c =
    let fits : let a = c.args in a.at + length (decimal a.x) + 1 ≤ length a.out.now = let a = c.args in
    let test = ltb-false (length a.out.now) (a.at + (length (decimal a.x) + 1)) (sym c.lacks_digits.ensures ∙ c.if-lacks_digits.false) in
    omega arith in
    let word_fits : let a = c.args in a.at + 4 ≤ length a.out.now = let x = c.args.x in
    omega (arith, fits, ap length (decimal-three x (omega arith) (omega arith))) in
    omega (arith, word_fits)

pub shape_of-out-then-x-ge100 : goal.shape_of-out-then-x-ge100
shape_of-out-then-x-ge100 c = omega arith

pub returns-then-x-ge100 : goal.returns-then-x-ge100
returns-then-x-ge100 c =
    let fits : let a = c.args in a.at + length (decimal a.x) + 1 ≤ length a.out.now = let a = c.args in
    let test = ltb-false (length a.out.now) (a.at + (length (decimal a.x) + 1)) (sym c.lacks_digits.ensures ∙ c.if-lacks_digits.false) in
    omega arith in
    let a = c.args in
    put-laid (omega (arith, fits, length-ended a.x a.b))
    (laid_as 4 (sym c.three_digits.ensures) (length-octets 4 c.three_digits.result) c.put_word.ensures)

pub lay_decimal-next-requires : goal.lay_decimal-next-requires
lay_decimal-next-requires c =
    let fits : let a = c.args in a.at + length (decimal a.x) + 1 ≤ length a.out.now = let a = c.args in
    let test = ltb-false (length a.out.now) (a.at + (length (decimal a.x) + 1)) (sym c.lacks_digits.ensures ∙ c.if-lacks_digits.false) in
    omega arith in
    omega (arith, fits)

pub bounds-out-next : goal.bounds-out-next
bounds-out-next c =
    let fits : let a = c.args in a.at + length (decimal a.x) + 1 ≤ length a.out.now = let a = c.args in
    let test = ltb-false (length a.out.now) (a.at + (length (decimal a.x) + 1)) (sym c.lacks_digits.ensures ∙ c.if-lacks_digits.false) in
    omega arith in
    -- there is room for the byte
    let room : c.lay_decimal-next.result + 1 ≤ length c.lay_decimal-next.new.out = omega (arith, fits) in
    omega (arith, room)

pub overflow_add-result-2 : goal.overflow_add-result-2
overflow_add-result-2 c =
    let fits : let a = c.args in a.at + length (decimal a.x) + 1 ≤ length a.out.now = let a = c.args in
    let test = ltb-false (length a.out.now) (a.at + (length (decimal a.x) + 1)) (sym c.lacks_digits.ensures ∙ c.if-lacks_digits.false) in
    omega arith in
    let room : c.lay_decimal-next.result + 1 ≤ length c.lay_decimal-next.new.out = omega (arith, fits) in
    omega (arith, room)

pub returns : goal.returns
returns c =
    let fits : let a = c.args in a.at + length (decimal a.x) + 1 ≤ length a.out.now = let a = c.args in
    let test = ltb-false (length a.out.now) (a.at + (length (decimal a.x) + 1)) (sym c.lacks_digits.ensures ∙ c.if-lacks_digits.false) in
    omega arith in
    let room : c.lay_decimal-next.result + 1 ≤ length c.lay_decimal-next.new.out = omega (arith, fits) in
    let a = c.args in
    put-laid (omega (arith, fits, length-ended a.x a.b))
    (laid_next c.lay_decimal-next.ensures (laid_as 1 refl refl (one_store _ _ _ room)) (omega (arith, fits)))
