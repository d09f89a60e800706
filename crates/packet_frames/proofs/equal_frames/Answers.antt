-- `packet_frames::equal_frames` meets its contract. Assumes nothing.
use native.Mathlib.Omega.{arith}
use Rattle.packet_frames.proofs.Framing.{equal-short, equal_uneven, equal-long, equal-fits}
use Rattle.packet_frames.proofs.equal_frames.Goals as goal

pub returns-then-room-padding : goal.returns-then-room-padding
returns-then-room-padding c = let a = c.args in record { told = equal-short a.s.now a.at a.count a.padding c.if-room-padding.true; within = tt }

pub returns-then-bytes-count-ne0 : goal.returns-then-bytes-count-ne0
returns-then-bytes-count-ne0 c =
    let a = c.args in
    record { told = equal_uneven a.s.now a.at a.count a.padding c.if-room-padding.false c.if-bytes-count-ne0.true; within = tt }

pub returns-then-bytes-count-gt-FRAME_MAX : goal.returns-then-bytes-count-gt-FRAME_MAX
returns-then-bytes-count-gt-FRAME_MAX c =
    let a = c.args in
    record {
      told = equal-long a.s.now a.at a.count a.padding c.if-room-padding.false c.if-bytes-count-ne0.false c.if-bytes-count-gt-FRAME_MAX.true;
      within = tt;
    }

pub returns : goal.returns
returns c =
    let a = c.args in
    record {
      told = equal-fits a.s.now a.at a.count a.padding c.if-room-padding.false c.if-bytes-count-ne0.false c.if-bytes-count-gt-FRAME_MAX.false;
      within = omega arith;
    }
