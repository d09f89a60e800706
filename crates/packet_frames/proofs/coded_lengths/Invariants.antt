-- `packet_frames::coded_lengths` meets its contract. The loop's invariant: what is summed and what is left make the whole.
-- Assumes nothing.
use mathlib.Core.Path.{◌≡◌}
use Prim.Native.Nat.{◌-◌, ◌*◌, ◌≤◌}
use lib.ListN.{length, drop}
use Rattle.packet_frames.specs.Frames.{frame_max, coded_times}
use Rattle.packet_frames.specs.Code.{summed}
use Rattle.packet_frames.proofs.CodedLengths.{plus}
use Rattle.packet_frames.proofs.coded_lengths.Given as goal

abbrev pub invariant-loop-i : goal.invariant-loop-i
invariant-loop-i l = (plus l.sum (coded_times (l.n - l._i) (drop l.place l.s)) ≡ summed (coded_times l.n (drop l.at l.s)))
    × (l.sum ≤ frame_max * l._i) × (l.place ≤ length l.s) × (l._i ≤ l.n)
