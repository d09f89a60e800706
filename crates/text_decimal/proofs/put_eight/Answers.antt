-- `text_decimal::put_eight` meets its contract: four digits, and four after them. Assumes nothing.
use mathlib.Core.Path.{◌∙◌, ap}
use Prim.Native.Nat.{◌+◌, ◌/◌, ◌%◌}
use native.Mathlib.Omega.{arith}
use Rattle.octets.specs.Octets.{Bytes, copied}
use Rattle.octets.proofs.Copying.{copied-append}
use Rattle.text_decimal.specs.Digits.{lowest}
use Rattle.text_decimal.proofs.Decimal.{length-lowest}
use Rattle.text_decimal.proofs.put_eight.Goals as goal

pub overflow_add-at : goal.overflow_add-at
overflow_add-at c = omega arith

pub shape_of-out : goal.shape_of-out
shape_of-out c = omega arith

pub returns : goal.returns
returns c =
    let a = c.args in
    let s = lowest 4 (a.x / 10000) in
    let t = lowest 4 (a.x % 10000) in
    let hs = length-lowest 4 (a.x / 10000) in
    let ht = length-lowest 4 (a.x % 10000) in
    c.put_four-2.ensures
    ∙ ap (λ (b : Bytes). copied b (a.at + 4) t) c.put_four.ensures
    ∙ copied-append a.out.now a.at s t (a.at + 4) (omega arith) (omega arith)
