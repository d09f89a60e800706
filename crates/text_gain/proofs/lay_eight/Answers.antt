-- `text_gain::lay_eight` meets its contract: four digits, and four after them. Assumes nothing.
use mathlib.Core.Path.{◌∙◌, ap}
use Prim.Native.Nat.{◌+◌, ◌/◌}
use native.Mathlib.Omega.{arith}
use lib.ListN.{length-append}
use Rattle.octets.specs.Octets.{Bytes, copied}
use Rattle.octets.proofs.Copying.{copied-append}
use Rattle.text_put.proofs.Laying.{laid_as}
use Rattle.text_decimal.specs.Digits.{lowest}
use Rattle.text_decimal.proofs.Decimal.{lowest-eight, length-lowest}
use Rattle.text_gain.proofs.lay_eight.Goals as goal

pub put_last_four-requires : goal.put_last_four-requires
put_last_four-requires c = tt

pub overflow_add-at : goal.overflow_add-at
overflow_add-at c = omega arith

pub put_last_four-requires-2 : goal.put_last_four-requires-2
put_last_four-requires-2 c = tt

pub overflow_add-result : goal.overflow_add-result
overflow_add-result c = omega arith

pub returns : goal.returns
returns c =
    let a = c.args in
    let hs = length-lowest 4 (a.x / 10000) in
    let ht = length-lowest 4 a.x in
    let size = length-append (lowest 4 (a.x / 10000)) (lowest 4 a.x) in
    laid_as 8 (lowest-eight a.x) (omega arith)
    (c.put_last_four-2.ensures
    ∙ ap (λ (b : Bytes). copied b (a.at + 4) (lowest 4 a.x)) c.put_last_four.ensures
    ∙ copied-append a.out.now a.at (lowest 4 (a.x / 10000)) (lowest 4 a.x) (a.at + 4) (omega arith) (omega (arith, c.requires)))
