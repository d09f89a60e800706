-- `feed_lacing::shape_of` meets its contract. Assumes nothing.
use mathlib.Core.Path.{◌≡◌, refl, sym, ◌∙◌}
use Prim.Native.Nat.{ℕ, ◌+◌, ◌-◌, ◌<◌}
use native.Mathlib.Omega.{arith}
use borrow.Author.Tests.{eqb-true, eqb-false}
use lib.ListN.{length, get_or, drop, drop_of_length-le, length-drop}
use Rattle.stream.specs.Shape.{shape_of}
use Rattle.feed_lacing.proofs.Values.{next}
use Rattle.feed_lacing.proofs.OnePiece.{shape_at, goes_on, ends, at_end_lem, no_more, some_more, shape-later, shape-some}
use Rattle.feed_lacing.proofs.shape_of.Goals as goal

pub loop-i-init : goal.loop-i-init
unfolding shape_of
loop-i-init c = refl

pub returns-then-more : goal.returns-then-more
returns-then-more c =
    let l = c.args.lacing.now in
    let i : ℕ = c.loop-i.i in
    let v : ℕ = get_or l i 0 in
    let left : length (drop (i + 1) l) ≡ length l - (i + 1) = length-drop (i + 1) l in
    rw (c.loop-i.invariant, next l i v (omega arith) refl, ends (shape_at i) (drop (i + 1) l) v c.if-v-lt255.true, some_more (drop (i + 1) l) (omega arith))

pub returns-else-more : goal.returns-else-more
returns-else-more c =
    let l = c.args.lacing.now in
    let i : ℕ = c.loop-i.i in
    let v : ℕ = get_or l i 0 in
    let left : length (drop (i + 1) l) ≡ length l - (i + 1) = length-drop (i + 1) l in
    rw (c.loop-i.invariant, next l i v (omega arith) refl, ends (shape_at i) (drop (i + 1) l) v c.if-v-lt255.true, no_more (drop (i + 1) l) (omega arith))

pub loop-i-preserved : goal.loop-i-preserved
loop-i-preserved c =
    let l = c.args.lacing.now in
    let i : ℕ = c.loop-i.i in
    let v : ℕ = get_or l i 0 in
    c.loop-i.invariant ∙ rw (next l i v (omega arith) refl, shape-later i) (goes_on (shape_at i) (drop (i + 1) l) v c.if-v-lt255.false)

pub returns-then-empty : goal.returns-then-empty
returns-then-empty c =
    let at = c.loop-i in
    let l = c.args.lacing.now in
    let none : length l ≡ 0 = eqb-true _ _ (sym c.is_empty-empty.ensures ∙ c.if-empty.true) in
    let first : at.i ≡ 0 = omega (arith, at.auto.i-end, none) in
    rw (at.invariant, drop_of_length-le l c.loop-i-test.false, at_end_lem (shape_at at.i), first)

pub returns : goal.returns
returns c =
    let at = c.loop-i in
    let l = c.args.lacing.now in
    let some : length l ≡ 0 → ⊥ = eqb-false _ _ (sym c.is_empty-empty.ensures ∙ c.if-empty.false) in
    rw (at.invariant, drop_of_length-le l c.loop-i-test.false, at_end_lem (shape_at at.i))
    (sym (shape-some at.i (λ first. some (omega (arith, first, c.loop-i-test.false)))))
