-- `text_decimal::lacks_digits` meets its contract: a number has at most 20 digits. Assumes nothing.
use mathlib.Core.Path.{sym, ap, ◌∙◌}
use Prim.Native.Nat.{ℕ, ◌+◌}
use native.Mathlib.Omega.{arith}
use borrow.Author.Tests.{ltb-false, le-ltb}
use lib.Dec.{ltb}
use lib.ListN.{length}
use Rattle.octets.proofs.Tests.{failed}
use Rattle.text_decimal.specs.Decimal.{decimal}
use Rattle.text_decimal.proofs.Decimal.{length-u64}
use Rattle.text_decimal.proofs.lacks_digits.Goals as goal

pub overflow_add-more : goal.overflow_add-more
overflow_add-more c = omega arith

pub is_short-requires : goal.is_short-requires
is_short-requires c = tt

pub returns-then-not-is_short : goal.returns-then-not-is_short
returns-then-not-is_short c =
    let a = c.args in
    let room = ltb-false a.len (a.at + (20 + a.more)) (failed c.is_short.ensures c.if-not-is_short.true) in
    let size = length-u64 a.x c.ranges.x.fits in
    sym (le-ltb a.len (a.at + (length (decimal a.x) + a.more)) (omega arith))

pub digits_of-requires : goal.digits_of-requires
digits_of-requires c = tt

pub overflow_add-digits_of : goal.overflow_add-digits_of
overflow_add-digits_of c = omega arith

pub is_short-requires-2 : goal.is_short-requires-2
is_short-requires-2 c = tt

pub returns : goal.returns
returns c =
    let a = c.args in
    c.is_short-2.ensures ∙ ap (λ (n : ℕ). ltb a.len (a.at + n)) (omega (arith, c.digits_of.ensures.digits))
