-- The packets of some streams, from one packet to the next: what the first is made of, and whether their lengths agree.
-- Assumes nothing.
use Rattle.std.specs.Prelude.{Option, Some, None, Ok, Err}
use mathlib.Core.Path.{◌≡◌, refl, sym, ap, ◌∙◌}
use mathlib.Core.Bool.{Bool, true, false, ◌&&◌}
use mathlib.Core.List.{List}
use Prim.Native.Nat.{ℕ, zero, suc, ◌-◌, ◌≤◌, ◌<◌}
use native.Mathlib.Omega.{arith}
use borrow.Author.Tests.{lt-ltb, eqb-true}
use lib.Dec.{ltb, eqb}
use lib.ListN.{length, get_or, drop}
use Rattle.octets.specs.Pick.{pick}
use Rattle.octets.specs.Octets.{Bytes}
use Rattle.refusal.specs.declared.Refusal.TheVariants.{IllegalPacket, MixedLengths}
use Rattle.packet_frames.specs.declared.Framed.{Framed}
use Rattle.packet_frames.specs.Frames.{Read, short, value, is_silent}
use Rattle.packet_frames.specs.Packet.{Parsed, breaks, frames, parse}
use Rattle.packet_frames.specs.Code.{Outline, outline, ValueIn, FramedIs}
use Rattle.packet_reader.specs.declared.Contents.{Contents}
use Rattle.packet_reader.specs.declared.OpusRead.{OpusRead}
use Rattle.packet_reader.specs.Streams.{contents_of, Measured, illegal, measured, with_first, last_of, first_and, measured_of, all_are}
use Rattle.packet_reader.specs.Code.{made_of, contents_in, OpusIs, agreed, joined}

-- ---- one packet: from its frames to what it is made of

-- what a call told of a packet's frames
module _ (s : Bytes) {r : Option Framed} {t : Read Outline} (is : FramedIs s t r) where
  pub unframed : r ≡ None → short ≡ t
  unframed e = rw e at is.told

  pub frames-told : {x : Framed} → r ≡ Some x → value (record { count = x.count; silent = x.silent }) (drop x.next s) ≡ t
  frames-told e = rw e at is.told

  pub frames-within : {x : Framed} → r ≡ Some x → ValueIn s 63 x.count x.next
  frames-within e = rw e at is.within

pub no_contents_lem : (b : Bytes) (p : Parsed) → short ≡ outline p → short ≡ contents_in b p
no_contents_lem b (breaks rule) e = refl
no_contents_lem b (frames sizes s) e = let z : ◌≡◌ {A = ℕ} 0 1 = cc in absurd (omega arith)

abbrev made : Bytes → Outline → Contents
made b o = made_of (get_or b 0 0) o.count o.silent

pub its_contents : (b : Bytes) (p : Parsed) (o : Outline) (s : Bytes) → value o s ≡ outline p → value (made b o) s ≡ contents_in b p
its_contents b (breaks rule) o s e = let z : ◌≡◌ {A = ℕ} 0 1 = cc in absurd (omega arith)
its_contents b (frames sizes t) o s e =
    let m : o ≡ record { count = length sizes; silent = is_silent sizes } = cc in
    let r : s ≡ t = cc in
    ap (λ (x : Outline). value (made b x) s) m ∙ ap (value (contents_of b sizes)) r

-- what a call told of a packet
module _ (s : Bytes) {r : Option OpusRead} {t : Read Contents} (is : OpusIs s t r) where
  pub unread : r ≡ None → short ≡ t
  unread e = rw e at is.told

  pub contents_told : {x : OpusRead} → r ≡ Some x → value x.contents (drop x.next s) ≡ t
  contents_told e = rw e at is.told

-- ---- a packet in front of others

module _ (c e : Contents) where
  either_not : (t : Bool) → eqb e.measure.samples c.measure.samples ≡ false → Err MixedLengths ≡ joined c (pick t (Ok e) (Err MixedLengths))
  either_not true q = rw q
  either_not false q = refl

  either_same : (t : Bool) → eqb e.measure.samples c.measure.samples ≡ true → pick t (Ok c) (Err MixedLengths) ≡ joined c (pick t (Ok e) (Err MixedLengths))
  either_same true q = rw q
  either_same false q = refl

  join_by : (es : List ℕ) (t : Bool) → eqb e.measure.samples c.measure.samples ≡ t
      → pick (t && all_are c.measure.samples es) (Ok c) (Err MixedLengths) ≡ joined c (pick (all_are e.measure.samples es) (Ok e) (Err MixedLengths))
  join_by es true q =
      ap (λ (d : ℕ). pick (all_are d es) (Ok c) (Err MixedLengths)) (sym (eqb-true e.measure.samples c.measure.samples q))
      ∙ either_same (all_are e.measure.samples es) q
  join_by es false q = either_not (all_are e.measure.samples es) q

agreed-first : (c : Contents) (m : Measured) → agreed (with_first c m) ≡ joined c (agreed m)
unfolding all_are
agreed-first c illegal = refl
agreed-first c (measured e es) = join_by c e es (eqb e.measure.samples c.measure.samples) refl

-- ---- the packet of a stream, by whether it is the last

last-agreed : (b : Bytes) (p : Parsed) (c : Contents) (s : Bytes) → value c s ≡ contents_in b p → Ok c ≡ agreed (last_of b p)
unfolding all_are
last-agreed b (breaks rule) c s e = let z : ◌≡◌ {A = ℕ} 0 1 = cc in absurd (omega arith)
last-agreed b (frames sizes t) c s e = let m : c ≡ contents_of b sizes = cc in ap Ok m

first-agreed : (f : Bytes → Measured) (b : Bytes) (p : Parsed) (c : Contents) (s : Bytes) → value c s ≡ contents_in b p
    → joined c (agreed (f s)) ≡ agreed (first_and f b p)
first-agreed f b (breaks rule) c s e = let z : ◌≡◌ {A = ℕ} 0 1 = cc in absurd (omega arith)
first-agreed f b (frames sizes t) c s e =
    let m : c ≡ contents_of b sizes = cc in
    let r : s ≡ t = cc in
    ap (λ (u : Bytes). joined c (agreed (f u))) r ∙ ap (λ (x : Contents). joined x (agreed (f t))) m
    ∙ sym (agreed-first (contents_of b sizes) (f t))

last-illegal : (b : Bytes) (p : Parsed) → short ≡ contents_in b p → Err IllegalPacket ≡ agreed (last_of b p)
last-illegal b (breaks rule) e = refl
last-illegal b (frames sizes t) e = let z : ◌≡◌ {A = ℕ} 0 1 = cc in absurd (omega arith)

first-illegal : (f : Bytes → Measured) (b : Bytes) (p : Parsed) → short ≡ contents_in b p → Err IllegalPacket ≡ agreed (first_and f b p)
first-illegal f b (breaks rule) e = refl
first-illegal f b (frames sizes t) e = let z : ◌≡◌ {A = ℕ} 0 1 = cc in absurd (omega arith)

-- n streams, whose first packet is self-delimited where there is another
more : (m : ℕ) → ltb 1 (suc (suc m)) ≡ true
more m = lt-ltb 1 (suc (suc m)) (omega arith)

one_less : (m : ℕ) → suc (suc m) - 1 ≡ suc m
one_less m = omega arith

module _ (b : Bytes) where
  pub broken-first : (n : ℕ) → short ≡ contents_in b (parse (ltb 1 n) b) → Err IllegalPacket ≡ agreed (measured_of (n - 1) b)
  unfolding measured_of
  broken-first zero e = last-illegal b (parse false b) e
  broken-first (suc zero) e = last-illegal b (parse false b) e
  broken-first (suc (suc m)) e = rw (one_less m) (first-illegal (measured_of m) b (parse true b) (rw (more m) at e))

  pub only_one : (n : ℕ) (c : Contents) (s : Bytes) → n ≤ 1 → value c s ≡ contents_in b (parse (ltb 1 n) b) → Ok c ≡ agreed (measured_of (n - 1) b)
  unfolding measured_of
  only_one zero c s h e = last-agreed b (parse false b) c s e
  only_one (suc zero) c s h e = last-agreed b (parse false b) c s e
  only_one (suc (suc m)) c s h e = absurd (omega arith)

  pub and-later : (n : ℕ) (c : Contents) (s : Bytes) → 1 < n → value c s ≡ contents_in b (parse (ltb 1 n) b)
      → joined c (agreed (measured_of (n - 1 - 1) s)) ≡ agreed (measured_of (n - 1) b)
  unfolding measured_of
  and-later zero c s h e = absurd (omega arith)
  and-later (suc zero) c s h e = absurd (omega arith)
  and-later (suc (suc m)) c s h e =
      let two : suc (suc m) - 1 - 1 ≡ m = omega arith in
      rw (two, one_less m) (first-agreed (measured_of m) b (parse true b) c s (rw (more m) at e))
