-- `packet_frames::padding_length` meets its contract. The loop's invariant: what is counted and what is left make the whole.
-- Assumes nothing.
use mathlib.Core.Path.{◌≡◌}
use Prim.Native.Nat.{◌≤◌}
use lib.ListN.{length, drop}
use Rattle.packet_frames.specs.Frames.{padding_from}
use Rattle.packet_frames.specs.Code.{capped, padding_in}
use Rattle.packet_frames.proofs.padding_length.Given as goal

abbrev pub invariant-loop-place : goal.invariant-loop-place
invariant-loop-place l = (capped (length l.s) (padding_from l.bytes (drop l.place l.s)) ≡ padding_in l.s l.at)
    × (l.bytes ≤ length l.s)
