-- `salvage_lines::put_named` meets its contract: the name, and two numbers, each with a byte after it. Assumes nothing.
use Prim.Native.Nat.{◌+◌, ◌≤◌, ◌<◌}
use native.Mathlib.Omega.{arith}
use lib.ListN.{length}
use Rattle.octets.proofs.Tests.{is_below, not-below}
use Rattle.text_put.proofs.Putting.{put-laid, put-nothing}
use Rattle.salvage_lines.proofs.Lines.{line, length-line, laid-line}
use Rattle.salvage_lines.proofs.put_named.Goals as goal

pub returns-then-is_short : goal.returns-then-is_short
returns-then-is_short c =
    let a = c.args in
    let short : length a.out.now < a.at + (length a.name.now + c.digits_of.result + c.digits_of-2.result + 2) =
    is_below c.is_short.ensures c.if-is_short.true in
    put-nothing (omega (arith, c.digits_of.ensures.digits, c.digits_of-2.ensures.digits, length-line a.name.now a.x a.y))

pub returns : goal.returns
returns c =
    -- the line fits
    let fits : let a = c.args in
    a.at + length (line a.name.now a.x a.y) ≤ length a.out.now = let a = c.args in
    let room : a.at + (length a.name.now + c.digits_of.result + c.digits_of-2.result + 2) ≤ length a.out.now =
    not-below c.is_short.ensures c.if-is_short.false in
    omega (arith, c.digits_of.ensures.digits, c.digits_of-2.ensures.digits, length-line a.name.now a.x a.y) in
    let a = c.args in
    put-laid fits
    (laid-line a.name.now a.x a.y c.put_bytes-next.ensures c.put_ended-last.ensures c.put_ended.ensures fits)
