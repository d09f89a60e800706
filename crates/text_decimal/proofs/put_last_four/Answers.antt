-- `text_decimal::put_last_four` meets its contract. Assumes nothing.
use mathlib.Core.Path.{sym, ap, ◌∙◌}
use Prim.Native.Nat.{◌+◌}
use native.Mathlib.Omega.{arith}
use borrow.Author.Tests.{ltb-true, ltb-false}
use lib.ListN.{length}
use Rattle.octets.specs.Octets.{copied}
use Rattle.octets.proofs.Copying.{copied-short}
use Rattle.text_decimal.specs.Digits.{lowest}
use Rattle.text_decimal.proofs.Decimal.{length-lowest, lowest-same}
use Rattle.text_decimal.proofs.put_last_four.Goals as goal

pub returns-then-is_short : goal.returns-then-is_short
returns-then-is_short c =
    let a = c.args in
    let short = ltb-true (length a.out.now) (a.at + 4) (sym c.is_short.ensures ∙ c.if-is_short.true) in
    sym (copied-short a.out.now a.at (lowest 4 a.x) (omega (arith, length-lowest 4 a.x)))

pub put_four-requires : goal.put_four-requires
put_four-requires c =
    let a = c.args in
    let fits = ltb-false (length a.out.now) (a.at + 4) (sym c.is_short.ensures ∙ c.if-is_short.false) in
    omega arith

pub returns : goal.returns
returns c =
    let a = c.args in
    c.put_four.ensures ∙ ap (copied a.out.now a.at) (lowest-same a.x)
