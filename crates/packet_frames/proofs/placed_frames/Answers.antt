-- `packet_frames::placed_frames` meets its contract. Assumes nothing.
use Prim.Native.Nat.{◌+◌, ◌-◌, ◌≤◌, ◌<◌}
use native.Mathlib.Omega.{arith}
use lib.ListN.{length}
use Rattle.octets.proofs.Tests.{is_below, not-below}
use Rattle.packet_frames.proofs.Framing.{placed-short, placed-fits}
use Rattle.packet_frames.proofs.placed_frames.Goals as goal

-- the frames and the padding are there
room : (c : goal.Else-is_short) → let a = c.args in a.padding + a.sum ≤ length a.s.now - a.at
room c = not-below c.is_short.ensures c.if-is_short.false

pub returns-then-is_short : goal.returns-then-is_short
returns-then-is_short c =
    let a = c.args in
    let short : length a.s.now - a.at < a.padding + a.sum = is_below c.is_short.ensures c.if-is_short.true in
    record { told = placed-short a.s.now a.at a.count a.sum a.padding (omega arith); within = tt }

pub overflow_add-result : goal.overflow_add-result
overflow_add-result c = omega (arith, room c)

pub overflow_add-result-2 : goal.overflow_add-result-2
overflow_add-result-2 c = omega (arith, room c)

pub returns : goal.returns
returns c =
    let a = c.args in
    record {
      told = placed-fits a.s.now a.at a.count a.sum a.padding (omega (arith, room c));
      within = omega (arith, room c);
    }
