-- `packet_frames::coded_length` meets its contract. Assumes nothing.
use native.Mathlib.Omega.{arith}
use Rattle.packet_frames.proofs.CodedLengths.{coded-end, coded-small, coded-cut, coded_large}
use Rattle.packet_frames.proofs.coded_length.Goals as goal

pub returns-then-s-at : goal.returns-then-s-at
returns-then-s-at c = let a = c.args in record { told = coded-end a.s.now a.at c.if-s-at.true; within = tt }

pub returns-then-first-lt252 : goal.returns-then-first-lt252
returns-then-first-lt252 c =
    let first = c.wide-first in
    let a = c.args in
    record {
      told = coded-small a.s.now a.at first.result c.if-s-at.false first.ensures.same c.if-first-lt252.true;
      within = omega arith;
    }

pub returns-then-s-at-lt2 : goal.returns-then-s-at-lt2
returns-then-s-at-lt2 c =
    let first = c.wide-first in
    let a = c.args in
    record {
      told = coded-cut a.s.now a.at first.result c.if-s-at.false first.ensures.same c.if-first-lt252.false (omega arith);
      within = tt;
    }

pub returns : goal.returns
returns c =
    let first = c.wide-first in
    let a = c.args in
    let second = c.wide-second in
    record {
      told =
          coded_large a.s.now a.at first.result c.if-s-at.false first.ensures.same second.result c.if-first-lt252.false
          (omega arith) second.ensures.same;
      within = omega arith;
    }
