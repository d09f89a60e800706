-- `packet_frames::varied_frames` meets its contract. Assumes nothing.
use Prim.Native.Nat.{◌+◌, ◌-◌, ◌≤◌, ◌<◌}
use native.Mathlib.Omega.{arith}
use lib.ListN.{length}
use Rattle.octets.proofs.Tests.{is_below, not-below}
use Rattle.packet_frames.proofs.CodedLengths.{missing, found}
use Rattle.packet_frames.proofs.Framing.{Others, last-cut, last-short, last-long, last_fits}
use Rattle.packet_frames.proofs.varied_frames.Goals as goal
use Rattle.packet_frames.proofs.varied_frames.Goals.{In_ok-others, Else-is_short}

others : (w : In_ok-others)
    → let a = w.args in
    let got = w.in_ok-others.others in
    Others a.s.now a.at a.count a.padding got.value got.next
others w =
    let told = found w.args.s.now 80325 w.in_ok-others.was w.coded_lengths.ensures in
    record { some = w.requires.some; inside = told.within.inside; read = told.told }

-- the other frames and the padding are there
room : (c : Else-is_short)
    →
    let a = c.args in
    let got = c.in_ok-others.others in
    a.padding + got.value ≤ length a.s.now - got.next
room c = not-below c.is_short.ensures c.if-is_short.false

pub returns-in_err-others : goal.returns-in_err-others
returns-in_err-others c =
    let a = c.args in
    let none = missing a.s.now 80325 c.in_err-others.was c.coded_lengths.ensures in
    rw c.from_residual.ensures (record { told = last-cut a.s.now a.at a.count a.padding none; within = tt })

pub overflow_sub-room : goal.overflow_sub-room
overflow_sub-room c = (others (goal.at.overflow_sub-room c).In_ok-others).inside

pub returns-then-is_short : goal.returns-then-is_short
returns-then-is_short c =
    let w = (goal.at.returns-then-is_short c).In_ok-others in
    let a = w.args in
    let got = w.in_ok-others.others in
    let short : length a.s.now - got.next < a.padding + got.value = is_below c.is_short.ensures c.if-is_short.true in
    record { told = last-short (others w) (omega arith); within = tt }

pub overflow_sub-long : goal.overflow_sub-long
overflow_sub-long c = omega (arith, room (goal.at.overflow_sub-long c).Else-is_short)

pub overflow_sub-long-2 : goal.overflow_sub-long-2
overflow_sub-long-2 c = omega (arith, room (goal.at.overflow_sub-long-2 c).Else-is_short)

pub returns-then-long : goal.returns-then-long
returns-then-long c =
    let w = (goal.at.returns-then-long c).In_ok-others in
    let fit = room (goal.at.returns-then-long c).Else-is_short in
    record { told = last-long (others w) (omega arith) (omega (arith, c.if-long.true)); within = tt }

pub returns : goal.returns
returns c =
    let w = (goal.at.returns c).In_ok-others in
    let fit = room (goal.at.returns c).Else-is_short in
    record { told = last_fits (others w) (omega arith) (omega (arith, c.if-long.false)); within = omega arith }
