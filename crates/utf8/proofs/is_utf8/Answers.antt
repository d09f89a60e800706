-- `utf8::is_utf8` meets its contract. The loop's invariant: what is left decides. Assumes nothing.
use mathlib.Core.Path.{refl, sym, ◌∙◌}
use Prim.Native.Nat.{◌+◌, ◌≤◌}
use native.Mathlib.Omega.{arith}
use lib.ListN.{length, drop_of_length-le}
use Rattle.utf8.specs.Characters.{utf8_from, utf8}
use Rattle.utf8.proofs.Characters.{wrong-here, right_inside, right_here}
use Rattle.utf8.proofs.is_utf8.Goals as goal

-- the next place lies inside
inside : (c : goal.Else-n-eq0)
    → c.loop-i.i + c.character_at-n.result ≤ length c.args.s.now
inside c =
    right_inside c.args.s.now c.loop-i.i c.character_at-n.result (omega arith) c.character_at-n.ensures c.if-n-eq0.false

pub loop-i-init : goal.loop-i-init
unfolding utf8
loop-i-init c = (refl, omega arith)

pub returns-then-n-eq0 : goal.returns-then-n-eq0
returns-then-n-eq0 c =
    let s = c.args.s.now in
    sym (wrong-here s c.loop-i.i c.character_at-n.result (omega arith) c.character_at-n.ensures c.if-n-eq0.true) ∙ c.loop-i.invariant.0

pub overflow_add-i : goal.overflow_add-i
overflow_add-i c = omega (arith, inside c)

pub loop-i-smaller : goal.loop-i-smaller
loop-i-smaller c = omega (arith, inside c)

pub loop-i-preserved : goal.loop-i-preserved
loop-i-preserved c =
    let s = c.args.s.now in
    (right_here s c.loop-i.i c.character_at-n.result (omega arith) c.character_at-n.ensures c.if-n-eq0.false ∙ c.loop-i.invariant.0, inside c)

pub returns : goal.returns
unfolding utf8_from
returns c = rw (drop_of_length-le c.args.s.now c.loop-i-test.false) at c.loop-i.invariant.0
