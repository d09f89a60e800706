-- `list_lines::put_pair` meets its contract: one number and its name right after another. Assumes nothing.
use native.Mathlib.Omega.{arith}
use lib.ListN.{length-append}
use Rattle.text_put.proofs.Laying.{laid_next}
use Rattle.text_decimal.specs.Decimal.{decimal}
use Rattle.list_lines.proofs.put_pair.Goals as goal

pub put_named-next-requires : goal.put_named-next-requires
put_named-next-requires c = omega arith

pub put_named-requires : goal.put_named-requires
put_named-requires c = let a = c.args in omega (arith, length-append a.first.now (decimal a.x))

pub shape_of-out : goal.shape_of-out
shape_of-out c = omega arith

pub returns : goal.returns
returns c =
    let a = c.args in
    laid_next c.put_named-next.ensures c.put_named.ensures
    (omega (arith, length-append a.first.now (decimal a.x), length-append a.second.now (decimal a.y)))
