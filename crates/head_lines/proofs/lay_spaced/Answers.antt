-- `head_lines::lay_spaced` meets its contract. The loop's invariant: what is left of the numbers. Assumes nothing.
use mathlib.Core.List.{◌++◌}
use Prim.Native.Nat.{◌+◌}
use native.Mathlib.Omega.{arith}
use lib.ListN.{get_or, drop, length-append}
use Rattle.text_put.specs.Marks.{space}
use Rattle.text_put.proofs.Filling.{Filling, filling_first, filling_next, filling_done}
use Rattle.text_decimal.specs.Decimal.{decimal}
use Rattle.head_lines.specs.Lines.{spaced}
use Rattle.head_lines.proofs.Parts.{next-index, no_index}
use Rattle.head_lines.proofs.lay_spaced.Goals as goal
use Rattle.head_lines.proofs.lay_spaced.Lts as lts
use Rattle.head_lines.proofs.lay_spaced.Tie as tie

abbrev In-loop-i : Type 0
In-loop-i = lts.In-loop tie.the-claims tie.handed_pre tie.handed_post goal.the-invariant-loop-i goal.the-decreases-loop-i

-- what is left at the loop's place: a number and the others
split : (c : In-loop-i)
    → let l = c.before in
    let a = l.args in
    Filling a.out.now 0 (spaced a.s.now) l.loop-i.out l.loop-i.place
    ((space ++ decimal (get_or a.s.now l.loop-i.i 0)) ++ spaced (drop (l.loop-i.i + 1) a.s.now))
split c =
    let l = c.before in
    rw (next-index l.args.s.now l.loop-i.i c.loop-i-test.true) at l.loop-i.invariant

pub loop-i-init : goal.loop-i-init
loop-i-init c = filling_first _ _ _

pub bounds-s-i : goal.bounds-s-i
bounds-s-i c = omega arith

pub lay_index-place-requires : goal.lay_index-place-requires
lay_index-place-requires c =
    let turn = c.before.before.before in
    let a = turn.args in
    let both = length-append (space ++ decimal (get_or a.s.now turn.loop-i.i 0)) (spaced (drop (turn.loop-i.i + 1) a.s.now)) in
    omega (arith, both, (split turn).place, (split turn).size, turn.requires)

pub overflow_add-i : goal.overflow_add-i
overflow_add-i c = omega arith

pub loop-i-smaller : goal.loop-i-smaller
loop-i-smaller c = omega arith

pub loop-i-preserved : goal.loop-i-preserved
loop-i-preserved c =
    let turn = c.before.before.before.before.before.before in
    filling_next (split turn) c.lay_index-place.ensures (omega (arith, turn.requires))

pub shape_of-out : goal.shape_of-out
shape_of-out c = c.loop-i.invariant.size

pub returns : goal.returns
returns c =
    filling_done (rw (no_index c.args.s.now c.loop-i.i c.loop-i-test.false) at c.loop-i.invariant) (omega (arith, c.requires))
