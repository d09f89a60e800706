-- A second reader that joins a stream with no granule position, its sequence numbers shifted: from the first page on that
-- completes a packet their states are equal, but for the shift. Cropping a stream depends on this (RULES.md, 9). Assumes
-- nothing.
use Rattle.std.specs.Prelude.{ℕ, ◌<◌, ◌^◌, ◌≡◌, Bool, true, false, List, [], ◌∷◌, map}
use Rattle.octets.specs.Octets.{Bytes}
use Rattle.refusal.specs.Told.{Told, gives}
use Rattle.granule.specs.declared.Position.{Position}
use Rattle.granule.specs.declared.Position.TheVariants.{Unset, Joined, At}
use Rattle.stream.specs.declared.Phase.TheVariants.{Audio}
use Rattle.stream.specs.declared.Pending.TheVariants.{Nothing}
use Rattle.stream.specs.Page.{Page, page_of, continued, last, completes}
use Rattle.stream.specs.Readings.{Readings}
use Rattle.stream.specs.State.{is_first}
use Rattle.stream.specs.Rules.{Stamp}
use Rattle.stream.specs.Feed.{Reader, Taken}
use Rattle.stream.specs.Lent.{is_short}
use Rattle.stream.specs.Feedings.{Feeding, feed_in, reader_after, finally, carry_left, HandedOn, tell}
use Rattle.stream.specs.Statements.{shifted, state_shifted, BytesShifted, view_of, Alike}

-- no granule position yet: a reader just past its headers, or opened part way
abbrev pub has_none : Position → Bool
has_none Unset = true
has_none Joined = true
has_none (At g) = false

-- s is among the audio pages, with nothing unfinished and no granule position; all else is as r has it, the sequence number
-- shifted by n
pub record JustPast (n : ℕ) (r s : Reader) : Type 0 where
  pub phase : s.core.phase ≡ Audio
  pub pending : s.core.pending ≡ Nothing
  pub position : has_none s.core.position ≡ true
  pub serial : s.core.serial ≡ r.core.serial
  pub next : s.core.next ≡ shifted n r.core.next
  pub streams : s.core.streams ≡ r.core.streams
  pub preskip : s.core.preskip ≡ r.core.preskip

-- it continues nothing, completes a packet, and is not the last
pub record Entrance (p : Page) : Type 0 where
  pub begins : continued p ≡ false
  pub completes : completes p ≡ true
  pub goes : last p ≡ false

-- r is among the audio pages, whatever its granule position, and takes the page: so does s, with the same stamps, lengths
-- and frames, and their states after it are equal but for the shift
abbrev pub Enters : Type 0
Enters =
    (R : Readings) (n : ℕ) (r s : Reader) (f g : Feeding) (t : Taken) → r.core.phase ≡ Audio → r.core.next < 2 ^ 32
    → JustPast n r s → is_short g.lent ≡ false → BytesShifted R n f.bytes g.bytes → Entrance (page_of f.bytes)
    → (feed_in R r f).told ≡ gives t → Alike R n r s f g

-- ---- and so for all that is fed to both afterwards

-- a feeding to each, the second's page shifted by n; both have room, or neither
pub record Pair (R : Readings) (n : ℕ) : Type 0 where
  pub one : Feeding
  pub other : Feeding
  pub pages : BytesShifted R n one.bytes other.bytes
  pub room : is_short other.lent ≡ is_short one.lent

abbrev pub ones : (R : Readings) (n : ℕ) → List (Pair R n) → List Feeding
ones R n = map (λ (x : Pair R n). x.one)

abbrev pub others : (R : Readings) (n : ℕ) → List (Pair R n) → List Feeding
others R n = map (λ (x : Pair R n). x.other)

unfoldable pub tells : Readings → Reader → List Feeding → List (Told (List Stamp))
tells R r [] = []
tells R r (f ∷ fs) = tell (feed_in R r f) ∷ tells R (reader_after R r f) fs

-- c and d were left in the carry buffers before these feedings
pub record AlikeAll (R : Readings) (n : ℕ) (r s : Reader) (c d : Bytes) (F G : List Feeding) : Type 0 where
  pub told : tells R s G ≡ tells R r F
  pub stays : view_of (finally R s G) (carry_left R s d G) ≡ state_shifted n (view_of (finally R r F) (carry_left R r c F))

-- two readers whose states are equal but for the shift stay so: T2 over lists
abbrev pub StaysAlike : Type 0
StaysAlike =
    (R : Readings) (n : ℕ) (r s : Reader) (c d : Bytes) (xs : List (Pair R n))
    → HandedOn R r c (ones R n xs) → HandedOn R s d (others R n xs) → is_first r.core.phase ≡ false
    → r.core.next < 2 ^ 32 → view_of s d ≡ state_shifted n (view_of r c)
    → AlikeAll R n r s c d (ones R n xs) (others R n xs)

abbrev pub EntersAll : Type 0
EntersAll =
    (R : Readings) (n : ℕ) (r s : Reader) (c d : Bytes) (x : Pair R n) (xs : List (Pair R n)) (t : Taken)
    → HandedOn R r c (ones R n (x ∷ xs)) → HandedOn R s d (others R n (x ∷ xs))
    → r.core.phase ≡ Audio → r.core.next < 2 ^ 32 → JustPast n r s
    → Entrance (page_of x.one.bytes) → (feed_in R r x.one).told ≡ gives t
    → AlikeAll R n r s c d (ones R n (x ∷ xs)) (others R n (x ∷ xs))
