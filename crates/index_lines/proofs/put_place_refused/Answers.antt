-- `index_lines::put_place_refused` meets its contract: two numbers, each after its name. Assumes nothing.
use Prim.Native.Nat.{◌+◌, ◌≤◌, ◌<◌}
use native.Mathlib.Omega.{arith}
use lib.ListN.{length}
use Rattle.octets.proofs.Tests.{is_below, not-below}
use Rattle.text_put.proofs.Putting.{put-laid, put-nothing}
use Rattle.index_lines.specs.Lines.{place_refused_line}
use Rattle.index_lines.proofs.Lines.{length-refused, laid-refused}
use Rattle.index_lines.proofs.put_place_refused.Goals as goal

pub returns-then-is_short : goal.returns-then-is_short
returns-then-is_short c =
    let a = c.args in
    let short : length a.out.now < a.at + (16 + c.digits_of.result + c.digits_of-2.result) = is_below c.is_short.ensures c.if-is_short.true in
    put-nothing (omega (
      arith,
      c.digits_of.ensures.digits,
      c.digits_of-2.ensures.digits,
      length-refused a.number a.place,
    ))

pub returns : goal.returns
returns c =
    -- the line fits
    let fits : let a = c.args in a.at + length (place_refused_line a.number a.place) ≤ length a.out.now = let a = c.args in
    let room : a.at + (16 + c.digits_of.result + c.digits_of-2.result) ≤ length a.out.now = not-below c.is_short.ensures c.if-is_short.false in
    omega (
      arith,
      c.digits_of.ensures.digits,
      c.digits_of-2.ensures.digits,
      length-refused a.number a.place,
    ) in
    let a = c.args in
    put-laid fits (laid-refused a.number a.place c.put_named-next.ensures c.put_named.ensures fits)
