-- `list_lines::put_named` meets its contract: the digits right after the name. Assumes nothing.
use mathlib.Core.Path.{refl}
use native.Mathlib.Omega.{arith}
use Rattle.text_put.proofs.Laying.{laid_as}
use Rattle.text_put.proofs.Putting.{laid_then}
use Rattle.list_lines.proofs.put_named.Goals as goal

pub copy_at-requires : goal.copy_at-requires
copy_at-requires c = tt

pub overflow_add-at : goal.overflow_add-at
overflow_add-at c = omega arith

pub put_decimal-requires : goal.put_decimal-requires
put_decimal-requires c = tt

pub shape_of-out : goal.shape_of-out
shape_of-out c = omega arith

pub returns : goal.returns
returns c =
    laid_then (laid_as _ refl refl c.copy_at.ensures) (omega arith) c.put_decimal.ensures
