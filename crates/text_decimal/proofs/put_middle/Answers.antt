-- `text_decimal::put_middle` meets its contract: the last four digits come after the others. Assumes nothing.
use native.Mathlib.Omega.{arith}
use mathlib.Core.Path.{refl}
use Prim.Native.Nat.{◌%◌}
use Rattle.text_put.proofs.Laying.{laid_next, laid_as}
use Rattle.text_decimal.proofs.Decimal.{decimal_fours, length_fours, length-lowest}
use Rattle.text_decimal.proofs.put_middle.Goals as goal

pub shape_of-out-then-x-lt10000 : goal.shape_of-out-then-x-lt10000
shape_of-out-then-x-lt10000 c = omega arith

pub put_short-next-requires : goal.put_short-next-requires
put_short-next-requires c = let x = c.args.x in omega (arith, length_fours x (omega arith))

pub put_four-requires : goal.put_four-requires
put_four-requires c = let x = c.args.x in omega (arith, length_fours x (omega arith))

pub overflow_add-result : goal.overflow_add-result
overflow_add-result c = let x = c.args.x in omega (arith, length_fours x (omega arith))

pub shape_of-out : goal.shape_of-out
shape_of-out c = omega arith

pub returns : goal.returns
returns c =
    let x = c.args.x in
    let size = length_fours x (omega arith) in
    let last = laid_as 4 refl (length-lowest 4 (x % 10000)) c.put_four.ensures in
    rw (decimal_fours x (omega arith)) (laid_next c.put_short-next.ensures last (omega (arith, length-lowest 4 (x % 10000))))
