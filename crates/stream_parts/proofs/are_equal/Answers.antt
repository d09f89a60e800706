-- `stream_parts::are_equal` meets its contract. The loop's invariant: the numbers from i on decide. Assumes nothing.
use Rattle.std.proofs.Common.{◌≡◌, ℕ, zero, suc, ◌+◌, ◌-◌, ◌<◌, ◌≤◌, Bool, true, false, ◌&&◌, eqb, List, length, get_or, sym, refl, ap, ◌∙◌, arith, eq-eqb, ne_eqb}
use Rattle.stream_parts.specs.Agree.{equal_at, compared}
use Rattle.stream_parts.proofs.are_equal.Invariants.{equal_from, many}
use Rattle.stream_parts.proofs.are_equal.Goals as goal

module _ (a b : List ℕ) where
  all : equal_from many 0 a b ≡ equal_at compared a b
  unfolding equal_from equal_at
  all = refl

  module _ (i : ℕ) (low : i < many) where
    one_more : many - i ≡ suc (many - (i + 1))
    one_more = omega arith

    other : (get_or a i 0 ≡ get_or b i 0 → ⊥) → equal_from (many - i) i a b ≡ false
    unfolding equal_from
    other n = rw (one_more, ne_eqb (get_or a i 0) (get_or b i 0) n)

    same : get_or a i 0 ≡ get_or b i 0 → equal_from (many - (i + 1)) (i + 1) a b ≡ equal_from (many - i) i a b
    unfolding equal_from
    same e = rw (one_more, eq-eqb (get_or a i 0) (get_or b i 0) e)

pub loop-i-init : goal.loop-i-init
loop-i-init c = (all _ _, omega arith)

pub offset_bounds-a-i : goal.offset_bounds-a-i
offset_bounds-a-i c = omega arith

pub bounds-a-i : goal.bounds-a-i
bounds-a-i c = omega arith

pub offset_bounds-b-i : goal.offset_bounds-b-i
offset_bounds-b-i c = omega arith

pub bounds-b-i : goal.bounds-b-i
bounds-b-i c = omega arith

pub returns-then-a-i : goal.returns-then-a-i
returns-then-a-i c =
    let x = c.args in
    sym (other x.a.now x.b.now c.loop-i.i (omega arith) c.if-a-i.true) ∙ c.loop-i.invariant.0

pub overflow_add-i : goal.overflow_add-i
overflow_add-i c = omega arith

pub loop-i-smaller : goal.loop-i-smaller
loop-i-smaller c = omega arith

pub loop-i-preserved : goal.loop-i-preserved
loop-i-preserved c =
    let x = c.args in
    (same x.a.now x.b.now c.loop-i.i (omega arith) c.if-a-i.false ∙ c.loop-i.invariant.0, omega arith)

pub returns : goal.returns
unfolding equal_from
returns c = let none_left : many - c.loop-i.i ≡ 0 = omega arith in rw none_left at c.loop-i.invariant.0
