-- `packet_frames::counted_layout` meets its contract. Assumes nothing.
use mathlib.Core.Path.{◌≡◌, sym, ap}
use Prim.Native.Nat.{ℕ, ◌*◌, ◌%◌, ◌<◌, ◌≤◌}
use native.Mathlib.Nat.{lt_of_le_of_lt}
use native.Mathlib.Omega.{arith}
use lib.Dec.{lit<}
use lib.ListN.{length, get_or, drop}
use Rattle.octets.specs.Octets.{Bytes}
use Rattle.packet_frames.specs.Frames.{Read}
use Rattle.packet_frames.specs.Packet.{count_of, is_variable, counted_shape}
use Rattle.packet_frames.specs.Code.{told_found, plain_of}
use Rattle.packet_toc.proofs.Samples.{frame-length}
use Rattle.packet_frames.proofs.Samples.{product}
use Rattle.packet_frames.proofs.Shapes.{some, bounded, no_count, no_frames, too_much, unpadded, with_padding, padded_by}
use Rattle.packet_frames.proofs.counted_layout.Goals as goal
use Rattle.packet_frames.proofs.counted_layout.Goals.{After-frame_samples-samples, After-padding_length}

-- the count byte and the frame's samples, where both are known
module _ (c : After-frame_samples-samples) where
  abbrev packet : Bytes
  packet = c.args.s.now

  abbrev byte : c.wide-c.result ≡ get_or packet 1 0
  byte = c.wide-c.ensures.same

  long : 2 ≤ length packet
  long = c.if-s-lt2.false

-- too many samples, by what the count byte and the samples are
over_by : {c b n k : ℕ} → c ≡ b → n ≡ k → 5760 < c % 64 * n → 5760 < b % 64 * k
over_by e g h = rw (e, g) at h

-- the padding as it was found
module _ (c : After-padding_length) where
  abbrev counted : After-frame_samples-samples
  counted = (goal.at.After-padding_length c).After-frame_samples-samples

  found : {r : Read ℕ} → told_found (packet counted) c.padding_length.result ≡ r
      → padded_by (length (packet counted)) (count_of (get_or (packet counted) 1 0)) (is_variable (get_or (packet counted) 1 0)) r
      ≡ plain_of (length (packet counted)) (counted_shape (get_or (packet counted) 0 0) (drop 1 (packet counted)))
  found e =
      rw (← e, c.padding_length.ensures.told)
      (sym
      (with_padding (length (packet counted)) (packet counted) (long counted) (rw (byte counted) at c.if-empty.false)
      (bounded (byte counted) counted.frame_samples-samples.ensures c.if-over.false) (rw (byte counted) at c.if-c-ne1.false)))

pub returns-then-s-lt2 : goal.returns-then-s-lt2
returns-then-s-lt2 c = let s = c.args.s.now in record { told = sym (no_count (length s) s c.if-s-lt2.true); sound = tt }

pub returns-then-empty : goal.returns-then-empty
returns-then-empty c =
    let f = (goal.at.returns-then-empty c).After-frame_samples-samples in
    record { told = sym (no_frames (length (packet f)) (packet f) (long f) (rw (byte f) at c.if-empty.true)); sound = tt }

pub overflow_mul-over : goal.overflow_mul-over
overflow_mul-over c =
    let f = (goal.at.overflow_mul-over c).After-frame_samples-samples in
    record { fits = lt_of_le_of_lt (product (omega arith) (rw (← f.frame_samples-samples.ensures) at (frame-length (get_or (packet f) 0 0)).most)) (lit< tt) }

pub returns-then-over : goal.returns-then-over
returns-then-over c =
    let f = (goal.at.returns-then-over c).After-frame_samples-samples in
    record {
      told =
          sym
          (too_much (length (packet f)) (packet f) (long f) (rw (byte f) at c.if-empty.false)
          (over_by (byte f) f.frame_samples-samples.ensures c.if-over.true));
      sound = tt;
    }

pub returns-then-c-ne1 : goal.returns-then-c-ne1
returns-then-c-ne1 c =
    let f = (goal.at.returns-then-c-ne1 c).After-frame_samples-samples in
    record {
      told =
          rw (byte f)
          (sym
          (unpadded (length (packet f)) (packet f) (long f) (rw (byte f) at c.if-empty.false)
          (bounded (byte f) f.frame_samples-samples.ensures c.if-over.false) (rw (byte f) at c.if-c-ne1.true)));
      sound = record { some = some c.if-empty.false; few = omega arith; padding = omega arith; inside = long f };
    }

pub returns-in_err-padding : goal.returns-in_err-padding
returns-in_err-padding c =
    let p = (goal.at.returns-in_err-padding c).After-padding_length in
    rw c.from_residual.ensures (record { told = found p (ap (told_found (packet (counted p))) c.in_err-padding.was); sound = tt })

pub returns : goal.returns
returns c =
    let p = (goal.at.returns c).After-padding_length in
    let f = counted p in
    let e = c.in_ok-padding.was in
    let within = rw e at p.padding_length.ensures.within in
    record {
      told = rw (byte f) (found p (ap (told_found (packet f)) e));
      sound =
          record { some = some p.if-empty.false; few = omega arith; padding = within.most; inside = within.inside };
    }
