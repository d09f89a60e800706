-- `head_lines::lay_index` meets its contract. Assumes nothing.
use native.Mathlib.Omega.{arith}
use lib.ListN.{length-append}
use Rattle.text_put.specs.Marks.{space}
use Rattle.text_put.proofs.Putting.{laid-put, laid_then}
use Rattle.text_decimal.specs.Decimal.{decimal}
use Rattle.head_lines.proofs.lay_index.Goals as goal

pub returns : goal.returns
returns c =
    let both = length-append space (decimal c.args.i) in
    let first = laid-put (omega (arith, c.requires)) c.put_bytes-next.ensures in
    laid_then first (omega (arith, first.place, c.requires)) c.put_decimal.ensures
