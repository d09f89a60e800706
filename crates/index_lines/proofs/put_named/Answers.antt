-- `index_lines::put_named` meets its contract: the digits right after the name. Assumes nothing.
use Prim.Native.Nat.{◌+◌, ◌≤◌, ◌<◌}
use native.Mathlib.Omega.{arith}
use lib.ListN.{length}
use Rattle.octets.proofs.Tests.{is_below, not-below}
use Rattle.text_put.proofs.Putting.{put-laid, put-nothing, laid-put, laid_then}
use Rattle.text_decimal.specs.Decimal.{decimal}
use Rattle.text_decimal.proofs.Decimal.{length-ended}
use Rattle.index_lines.proofs.Lines.{length-named}
use Rattle.index_lines.proofs.put_named.Goals as goal

pub returns-then-is_short : goal.returns-then-is_short
returns-then-is_short c =
    let a = c.args in
    let short : length a.out.now < a.at + (length a.name.now + c.digits_of.result + 1) = is_below c.is_short.ensures c.if-is_short.true in
    put-nothing (omega (arith, c.digits_of.ensures.digits, length-named a.name.now a.x a.b))

pub returns : goal.returns
returns c =
    -- the name, the digits and the byte fit
    let fits : let a = c.args in a.at + length a.name.now + length (decimal a.x) + 1 ≤ length a.out.now = let a = c.args in
    let room : a.at + (length a.name.now + c.digits_of.result + 1) ≤ length a.out.now = not-below c.is_short.ensures c.if-is_short.false in
    omega (arith, c.digits_of.ensures.digits) in
    let a = c.args in
    let first = laid-put (omega (arith, fits)) c.put_bytes-next.ensures in
    put-laid (omega (arith, fits, length-named a.name.now a.x a.b))
    (laid_then first (omega (arith, fits, first.place, length-ended a.x a.b)) c.put_ended.ensures)
