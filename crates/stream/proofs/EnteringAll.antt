-- Two readers that differ in the shift of their sequence numbers alone stay so, over lists of feedings. Assumes nothing.
use Prim.Native.Nat.{ℕ, ◌^◌, ◌<◌}
use mathlib.Core.Path.{◌≡◌, refl, sym, ap, ap₂, subst, ◌∙◌}
use mathlib.Core.Bool.{Bool, true, false}
use mathlib.Core.List.{List, [], ◌∷◌}
use mathlib.Core.Option.{Option, none, some}
use native.Mathlib.Omega.{arith}
use lib.ListN.{take}
use Rattle.octets.specs.Pick.{pick}
use Rattle.octets.specs.Octets.{Bytes}
use Rattle.refusal.specs.declared.Refusal.{Refusal}
use Rattle.refusal.specs.Told.{Told}
use Rattle.stream.specs.declared.Core.{Core}
use Rattle.stream.specs.Page.{page_of, last}
use Rattle.stream.specs.Readings.{Readings}
use Rattle.stream.specs.State.{Carried, State, is_first, expecting}
use Rattle.stream.specs.Packets.{seen}
use Rattle.stream.specs.Rules.{Stamp, next_on, verdict, after}
use Rattle.stream.specs.Feed.{Reader, Fed}
use Rattle.stream.specs.Lent.{is_short}
use Rattle.stream.specs.Feedings.{Feeding, feed_in, reader_by, reader_after, finally, held_of, left_in, carry_left, HandedOn, tell}
use Rattle.stream.specs.Statements.{state_shifted, BytesShifted, view_of, Alike}
use Rattle.stream.specs.Entering.{ones, others, tells, AlikeAll, StaysAlike, EntersAll}
use Rattle.stream.proofs.Step.{take-held, feeds-short, state_by, Stepped, stepped}
use Rattle.stream.proofs.Shift.{congruence}
use Rattle.stream.proofs.Unskipped.{never_first}
use Rattle.stream.proofs.Entering.{Accepted, was_accepted, enters_by}

-- one feeding to each, c and d being left before
pub record BothFed (R : Readings) (n : ℕ) (r s : Reader) (c d : Bytes) (f g : Feeding) : Type 0 where
  pub told : tell (feed_in R s g) ≡ tell (feed_in R r f)
  pub stays : view_of (reader_after R s g) (left_in R s g d) ≡ state_shifted n (view_of (reader_after R r f) (left_in R r f c))
  pub going : is_first (reader_after R r f).core.phase ≡ false
  pub small : (reader_after R r f).core.next < 2 ^ 32

seeing : Core → Carried → State
seeing k x = record { phase = k.phase; carried = x; position = k.position; serial = k.serial; next = k.next; streams = k.streams; preskip = k.preskip }

held-view : (r : Reader) (c d : Bytes) → take (held_of r.core.pending) c ≡ take (held_of r.core.pending) d → view_of r c ≡ view_of r d
unfolding seeing
held-view r c d e = ap (seeing r.core) (take-held r.core.pending c d e)

-- a reader past its first page, its due number below 2^32, stays so
going-by : (R : Readings) (s : State) (b : Bytes) (v : Option Refusal) → is_first s.phase ≡ false → is_first (state_by v s (after R s b)).phase ≡ false
unfolding after next_on
going-by R s b none e =
    let t : State = expecting s (page_of b) in
    never_first t.phase (seen t (page_of b)).completes (last (page_of b))
going-by R s b (some n) e = e

small_by : (R : Readings) (s : State) (b : Bytes) (v : Option Refusal) → s.next < 2 ^ 32 → (state_by v s (after R s b)).next < 2 ^ 32
unfolding after next_on
small_by R s b none e = omega arith
small_by R s b (some n) e = e

module _ (R : Readings) (n : ℕ) (r s : Reader) (c d : Bytes) (f g : Feeding) where
  left-room : (t : Reader) (l : Bytes) (h : Feeding) → is_short h.lent ≡ false
      → view_of (reader_after R t h) (left_in R t h l) ≡ view_of (reader_after R t h) (feed_in R t h).lent.carry
  left-room t l h e = ap (λ (k : Bool). view_of (reader_after R t h) (pick k l (feed_in R t h).lent.carry)) e

  left-short : (t : Reader) (l : Bytes) (h : Feeding) → is_short h.lent ≡ true → view_of (reader_after R t h) (left_in R t h l) ≡ view_of t l
  left-short t l h e =
      ap (λ (k : Bool). view_of (reader_after R t h) (pick k l (feed_in R t h).lent.carry)) e
      ∙ ap (λ (k : Fed). view_of (reader_by k.told t) l) (feeds-short R t h.lent h.bytes e)

  -- both have room
  fed_with_room : is_first r.core.phase ≡ false → r.core.next < 2 ^ 32 → is_short f.lent ≡ false → is_short g.lent ≡ false → Alike R n r s f g
      → BothFed R n r s c d f g
  fed_with_room going small p q k =
      let z : Stepped R r (view_of r f.lent.carry) f.bytes (verdict R (view_of r f.lent.carry) f.bytes) (feed_in R r f) =
      stepped R r f.lent f.bytes p in
      record {
        told = k.told;
        stays = left-room s d g q ∙ k.stays ∙ sym (ap (state_shifted n) (left-room r c f p));
        going = ap (λ (t : State). is_first t.phase) z.view
            ∙ going-by R (view_of r f.lent.carry) f.bytes (verdict R (view_of r f.lent.carry) f.bytes) going;
        small = subst (λ (t : State). t.next < 2 ^ 32) (sym z.view)
            (small_by R (view_of r f.lent.carry) f.bytes (verdict R (view_of r f.lent.carry) f.bytes) small);
      }

  fed-short : is_first r.core.phase ≡ false → r.core.next < 2 ^ 32 → is_short f.lent ≡ true → is_short g.lent ≡ true
      → view_of s d ≡ state_shifted n (view_of r c) → BothFed R n r s c d f g
  fed-short going small p q e =
      let stays : reader_after R r f ≡ r = ap (λ (k : Fed). reader_by k.told r) (feeds-short R r f.lent f.bytes p) in
      record {
        told = ap tell (feeds-short R s g.lent g.bytes q) ∙ sym (ap tell (feeds-short R r f.lent f.bytes p));
        stays = left-short s d g q ∙ e ∙ sym (ap (state_shifted n) (left-short r c f p));
        going = ap (λ (t : Reader). is_first t.core.phase) stays ∙ going;
        small = subst (λ (t : Reader). t.core.next < 2 ^ 32) (sym stays) small;
      }

  pub both-fed : is_short g.lent ≡ is_short f.lent → BytesShifted R n f.bytes g.bytes
      → (is_short f.lent ≡ false → take (held_of r.core.pending) f.lent.carry ≡ take (held_of r.core.pending) c)
      → (is_short g.lent ≡ false → take (held_of s.core.pending) g.lent.carry ≡ take (held_of s.core.pending) d)
      → is_first r.core.phase ≡ false → r.core.next < 2 ^ 32 → view_of s d ≡ state_shifted n (view_of r c) → BothFed R n r s c d f g
  both-fed room bytes x y going small e = by (is_short f.lent) refl
    where
      by : (t : Bool) → is_short f.lent ≡ t → BothFed R n r s c d f g
      by true p = fed-short going small p (room ∙ p) e
      by false p =
          fed_with_room going small p (room ∙ p)
          (congruence R n r s f g p (room ∙ p) going small bytes
          (held-view s g.lent.carry d (y (room ∙ p)) ∙ e ∙ ap (state_shifted n) (sym (held-view r f.lent.carry c (x p)))))

pub stays-alike : StaysAlike
unfolding HandedOn tells finally carry_left
stays-alike R n r s c d [] h j going small e = record { told = refl; stays = e }
stays-alike R n r s c d (x ∷ xs) h j going small e =
    let f : Feeding = x.one in
    let g : Feeding = x.other in
    let k : BothFed R n r s c d f g = both-fed R n r s c d f g x.room x.pages h.0 j.0 going small e in
    let z : AlikeAll R n (reader_after R r f) (reader_after R s g) (left_in R r f c) (left_in R s g d) (ones R n xs) (others R n xs) =
    stays-alike R n (reader_after R r f) (reader_after R s g) (left_in R r f c) (left_in R s g d) xs h.1 j.1 k.going k.small k.stays in
    record { told = ap₂ (λ (a : Told (List Stamp)) (l : List (Told (List Stamp))). a ∷ l) k.told z.told; stays = z.stays }

pub enters_all : EntersAll
unfolding HandedOn tells finally carry_left
enters_all R n r s c d x xs t h j audio small past enter took =
    let f : Feeding = x.one in
    let g : Feeding = x.other in
    let a : Accepted R r f.lent f.bytes = was_accepted R r f.lent f.bytes t took in
    let k : BothFed R n r s c d f g =
    fed_with_room R n r s c d f g (ap is_first audio) small a.room (x.room ∙ a.room)
    (enters_by R n r s f g audio small past (x.room ∙ a.room) x.pages enter a) in
    let z : AlikeAll R n (reader_after R r f) (reader_after R s g) (left_in R r f c) (left_in R s g d) (ones R n xs) (others R n xs) =
    stays-alike R n (reader_after R r f) (reader_after R s g) (left_in R r f c) (left_in R s g d) xs h.1 j.1 k.going k.small k.stays in
    record { told = ap₂ (λ (a : Told (List Stamp)) (l : List (Told (List Stamp))). a ∷ l) k.told z.told; stays = z.stays }
