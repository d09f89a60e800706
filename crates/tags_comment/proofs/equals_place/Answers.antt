-- `tags_comment::equals_place` meets its contract. The loop's invariant: no "=" is before i. Assumes nothing.
use native.Mathlib.Omega.{arith}
use Rattle.tags_comment.proofs.Names.{no_equals_left, equals-here, no_equals_here}
use Rattle.tags_comment.proofs.equals_place.Goals as goal

pub loop-i-init : goal.loop-i-init
loop-i-init c = (omega arith, omega arith)

pub bounds-c-i : goal.bounds-c-i
bounds-c-i c = omega arith

pub returns-then-b-eq61 : goal.returns-then-b-eq61
returns-then-b-eq61 c =
    omega (arith, equals-here c.args.c.now c.loop-i.i (omega arith) c.if-b-eq61.true)

pub loop-i-preserved : goal.loop-i-preserved
loop-i-preserved c =
    (omega (arith, no_equals_here c.args.c.now c.loop-i.i (omega arith) c.if-b-eq61.false), omega arith)

pub returns : goal.returns
returns c = omega (arith, no_equals_left c.args.c.now c.loop-i.i c.loop-i-test.false)
