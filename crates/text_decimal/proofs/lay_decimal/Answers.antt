-- `text_decimal::lay_decimal` meets its contract: the last eight digits come after the others. Assumes nothing.
use native.Mathlib.Omega.{arith}
use mathlib.Core.Path.{refl}
use Prim.Native.Nat.{◌%◌}
use Rattle.text_put.proofs.Laying.{laid_next, laid_as}
use Rattle.text_decimal.proofs.Decimal.{decimal_eights, length_eights, length-eight}
use Rattle.text_decimal.proofs.lay_decimal.Goals as goal

pub shape_of-out-then-x-lt100000000 : goal.shape_of-out-then-x-lt100000000
shape_of-out-then-x-lt100000000 c = omega arith

pub put_upper-next-requires : goal.put_upper-next-requires
put_upper-next-requires c = let x = c.args.x in omega (arith, length_eights x (omega arith))

pub put_eight-requires : goal.put_eight-requires
put_eight-requires c = let x = c.args.x in omega (arith, length_eights x (omega arith))

pub overflow_add-result : goal.overflow_add-result
overflow_add-result c = let x = c.args.x in omega (arith, length_eights x (omega arith))

pub shape_of-out : goal.shape_of-out
shape_of-out c = omega arith

pub returns : goal.returns
returns c =
    let x = c.args.x in
    let size = length_eights x (omega arith) in
    let last = laid_as 8 refl (length-eight (x % 100000000)) c.put_eight.ensures in
    rw (decimal_eights x (omega arith)) (laid_next c.put_upper-next.ensures last (omega (arith, length-eight (x % 100000000))))
