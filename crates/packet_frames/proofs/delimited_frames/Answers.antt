-- `packet_frames::delimited_frames` meets its contract. Assumes nothing.
use Prim.Native.Nat.{◌*◌, ◌≤◌}
use native.Mathlib.Nat.{mul-le-mul}
use native.Mathlib.Omega.{arith}
use Rattle.packet_frames.specs.Frames.{frame_max}
use Rattle.packet_frames.proofs.CodedLengths.{missing, found}
use Rattle.packet_frames.proofs.Framing.{each-cut, each_placed, all-cut, all_placed}
use Rattle.packet_frames.proofs.delimited_frames.Goals as goal

pub returns-in_err-lengths : goal.returns-in_err-lengths
returns-in_err-lengths c =
    let a = c.args in
    let s = a.s.now in
    let none = missing s 80325 c.in_err-lengths.was c.coded_lengths.ensures in
    rw c.from_residual.ensures (record { told = rw c.if-vary.true (each-cut s a.at a.count a.padding none); within = tt })

pub placed_frames-requires : goal.placed_frames-requires
placed_frames-requires c =
    let a = c.args in
    let some = found a.s.now 80325 c.in_ok-lengths.was c.coded_lengths.ensures in
    record { few = c.requires.few; inside = some.within.inside }

pub returns-then-vary : goal.returns-then-vary
returns-then-vary c =
    let a = c.args in
    let s = a.s.now in
    let some = found s 80325 c.in_ok-lengths.was c.coded_lengths.ensures in
    let n = c.in_ok-lengths.lengths in
    let end = c.placed_frames.ensures in
    record {
      told = rw c.if-vary.true (each_placed s a.at a.count a.padding n.value n.next some.told end.told);
      within = end.within;
    }

pub returns-in_err-length : goal.returns-in_err-length
returns-in_err-length c =
    let a = c.args in
    let s = a.s.now in
    let none = missing s frame_max c.in_err-length.was c.coded_length.ensures in
    rw c.from_residual-in_err-length.ensures (record { told = rw c.if-vary.false (all-cut s a.at a.count a.padding none); within = tt })

pub overflow_mul-count : goal.overflow_mul-count
overflow_mul-count c =
    let a = c.args in
    let one = found a.s.now frame_max c.in_ok-length.was c.coded_length.ensures in
    let most : a.count * c.in_ok-length.length.value ≤ 63 * frame_max = mul-le-mul c.requires.few one.within.most in
    omega arith

pub placed_frames-requires-2 : goal.placed_frames-requires-2
placed_frames-requires-2 c =
    let a = c.args in
    let one = found a.s.now frame_max c.in_ok-length.was c.coded_length.ensures in
    record { few = c.requires.few; inside = one.within.inside }

pub returns : goal.returns
returns c =
    let a = c.args in
    let s = a.s.now in
    let one = found s frame_max c.in_ok-length.was c.coded_length.ensures in
    let n = c.in_ok-length.length in
    let end = c.placed_frames-2.ensures in
    record {
      told = rw c.if-vary.false (all_placed s a.at a.count a.padding n.value n.next one.told end.told);
      within = end.within;
    }
