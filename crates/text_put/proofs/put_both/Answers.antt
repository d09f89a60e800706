-- `text_put::put_both` meets its contract. Assumes nothing.
use Prim.Native.Nat.{◌+◌, ◌≤◌, ◌<◌}
use native.Mathlib.Omega.{arith}
use lib.ListN.{length, length-append}
use Rattle.octets.proofs.Tests.{is_below, not-below}
use Rattle.text_put.proofs.Putting.{put-laid, put-nothing, laid-put, laid_then}
use Rattle.text_put.proofs.put_both.Goals as goal

pub returns-then-is_short : goal.returns-then-is_short
returns-then-is_short c =
    let a = c.args in
    let short : length a.out.now < a.at + (length a.a.now + length a.b.now) = is_below c.is_short.ensures c.if-is_short.true in
    put-nothing (omega (arith, length-append a.a.now a.b.now))

pub returns : goal.returns
returns c =
    let a = c.args in
    let both = length-append a.a.now a.b.now in
    let room : a.at + (length a.a.now + length a.b.now) ≤ length a.out.now =
    not-below c.is_short.ensures c.if-is_short.false in
    let first = laid-put (omega arith) c.put_bytes-next.ensures in
    put-laid (omega arith) (laid_then first (omega (arith, first.place)) c.put_bytes.ensures)
