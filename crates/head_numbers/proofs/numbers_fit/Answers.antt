-- `head_numbers::numbers_fit` meets its contract. The loop's invariant: what is left decides. Assumes nothing.
use mathlib.Core.Path.{◌≡◌, refl, sym, ◌∙◌}
use mathlib.Core.List.{[]}
use native.Mathlib.Omega.{arith}
use lib.ListN.{drop, drop_of_length-le}
use Rattle.head_numbers.specs.Numbers.{bounds as widths, all_below, fitting}
use Rattle.head_numbers.proofs.Below.{below-stop, below_next}
use Rattle.head_numbers.proofs.numbers_fit.Goals as goal

pub loop-i-init : goal.loop-i-init
unfolding fitting
loop-i-init c = (refl, omega arith)

pub offset_bounds-fields-i : goal.offset_bounds-fields-i
offset_bounds-fields-i c = omega arith

pub bounds-fields-i : goal.bounds-fields-i
bounds-fields-i c = omega arith

pub offset_bounds-bounds-i : goal.offset_bounds-bounds-i
offset_bounds-bounds-i c = omega arith

pub bounds-bounds-i : goal.bounds-bounds-i
bounds-bounds-i c = omega arith

pub returns-then-fields-i : goal.returns-then-fields-i
returns-then-fields-i c =
    let f = c.args.fields.now in
    sym (below-stop widths f c.loop-i.i (omega arith) c.if-fields-i.true) ∙ c.loop-i.invariant.0

pub overflow_add-i : goal.overflow_add-i
overflow_add-i c = omega arith

pub loop-i-smaller : goal.loop-i-smaller
loop-i-smaller c = omega arith

pub loop-i-preserved : goal.loop-i-preserved
loop-i-preserved c =
    let f = c.args.fields.now in
    (below_next widths f c.loop-i.i (omega arith) c.if-fields-i.false ∙ c.loop-i.invariant.0, omega arith)

pub returns : goal.returns
unfolding all_below
returns c =
    let none : drop c.loop-i.i widths ≡ [] = drop_of_length-le widths {i = c.loop-i.i} (omega arith) in
    rw none at c.loop-i.invariant.0
