-- `text_decimal::digits_of` meets its contract. The loop's invariant: n, and the digits of what is left but one. Assumes nothing.
use mathlib.Core.Path.{ap}
use native.Mathlib.Omega.{arith}
use lib.ListN.{length}
use Rattle.text_decimal.proofs.Decimal.{decimal-one, length_more, length-u64}
use Rattle.text_decimal.proofs.digits_of.Goals as goal

pub loop-rest-init : goal.loop-rest-init
loop-rest-init c = (omega arith, length-u64 c.args.x c.ranges.x.fits)

pub overflow_add-n : goal.overflow_add-n
overflow_add-n c = omega arith

pub loop-rest-smaller : goal.loop-rest-smaller
loop-rest-smaller c = omega arith

pub loop-rest-preserved : goal.loop-rest-preserved
loop-rest-preserved c = let l = c.loop-rest in (omega (arith, length_more l.rest c.loop-rest-test.true), l.invariant.1)

pub returns : goal.returns
returns c =
    let l = c.loop-rest in
    omega (arith, ap length (decimal-one l.rest c.loop-rest-test.false))
