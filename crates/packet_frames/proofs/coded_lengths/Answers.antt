-- `packet_frames::coded_lengths` meets its contract. The loop's invariant: what is summed and what is left make the whole.
-- Assumes nothing.
use mathlib.Core.Path.{sym, ◌∙◌}
use native.Mathlib.Omega.{arith}
use lib.ListN.{drop}
use Rattle.packet_frames.specs.Frames.{frame_max}
use Rattle.packet_frames.proofs.CodedLengths.{missing, found, times_begin, times_cut, times_more, times-done}
use Rattle.packet_frames.proofs.coded_lengths.Goals as goal

pub loop-i-init : goal.loop-i-init
loop-i-init c =
    let a = c.args in
    (times_begin a.n (drop a.at a.s.now), omega arith, omega arith, omega arith)

pub coded_length-requires : goal.coded_length-requires
coded_length-requires c = tt

pub returns-in_err-length : goal.returns-in_err-length
returns-in_err-length c =
    let l = c.loop-i in
    let a = c.args in
    let none = missing a.s.now frame_max c.in_err-length.was c.coded_length.ensures in
    rw c.from_residual.ensures
    (record {
      told = sym (times_cut a.n l._i l.sum (drop l.place a.s.now) c.loop-i-test.true none) ∙ l.invariant.0;
      within = tt;
    })

pub overflow_add-sum : goal.overflow_add-sum
overflow_add-sum c =
    let a = c.args in
    let one = found a.s.now frame_max c.in_ok-length.was c.coded_length.ensures in
    omega arith

pub loop-i-preserved : goal.loop-i-preserved
loop-i-preserved c =
    let got = c.in_ok-length in
    let l = c.loop-i in
    let a = c.args in
    let s = a.s.now in
    let one = found s frame_max got.was c.coded_length.ensures in (
      sym (times_more a.n l._i l.sum got.length.value (drop l.place s) (drop got.length.next s) c.loop-i-test.true one.told) ∙ l.invariant.0,
      omega arith,
      one.within.inside,
      omega arith,
    )

pub returns : goal.returns
returns c =
    let l = c.loop-i in
    let a = c.args in
    record {
      told = sym (times-done a.n l._i l.sum (drop l.place a.s.now) c.loop-i-test.false) ∙ l.invariant.0;
      within = omega arith;
    }
