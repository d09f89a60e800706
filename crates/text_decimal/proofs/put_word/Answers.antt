-- `text_decimal::put_word` meets its contract: four stores are a copy. Assumes nothing.
use mathlib.Core.Path.{◌∙◌, ap, sym}
use native.Mathlib.Omega.{arith}
use lib.ListN.{length-set}
use Rattle.octets.specs.Octets.{copied}
use Rattle.text_put.proofs.Laying.{four_stores}
use Rattle.text_decimal.proofs.Words.{word_places}
use Rattle.text_decimal.proofs.put_word.Goals as goal

pub overflow_cast-out : goal.overflow_cast-out
overflow_cast-out c = omega arith

pub bounds-out-at : goal.bounds-out-at
bounds-out-at c = omega arith

pub overflow_cast-out-2 : goal.overflow_cast-out-2
overflow_cast-out-2 c = omega arith

pub overflow_add-out : goal.overflow_add-out
overflow_add-out c = omega arith

pub bounds-out-at-2 : goal.bounds-out-at-2
bounds-out-at-2 c = simp length-set (omega arith)

pub overflow_cast-out-3 : goal.overflow_cast-out-3
overflow_cast-out-3 c = omega arith

pub overflow_add-out-2 : goal.overflow_add-out-2
overflow_add-out-2 c = omega arith

pub bounds-out-at-3 : goal.bounds-out-at-3
bounds-out-at-3 c = simp length-set (omega arith)

pub overflow_cast-out-4 : goal.overflow_cast-out-4
overflow_cast-out-4 c = omega arith

pub overflow_add-out-3 : goal.overflow_add-out-3
overflow_add-out-3 c = omega arith

pub bounds-out-at-4 : goal.bounds-out-at-4
bounds-out-at-4 c = simp length-set (omega arith)

pub returns : goal.returns
returns c =
    let a = c.args in
    four_stores a.out.now a.at _ _ _ _ c.requires ∙ ap (copied a.out.now a.at) (sym (word_places a.w))
