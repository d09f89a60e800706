-- What a feeding leaves in the carry buffer, byte for byte, by the page's segments alone (RULES.md, 7; demand 1), and which
-- numbers it tells. Assumes nothing.
use Rattle.std.specs.Prelude.{ℕ, ◌+◌, ◌≤◌, ◌<◌, ◌≡◌, Bool, false, not, ◌&&◌, ◌||◌, List, [], ◌∷◌, ◌++◌, length, take, drop}
use Rattle.std.proofs.Math.Option.{Option, none, some}
use Rattle.octets.specs.Pick.{pick}
use Rattle.octets.specs.Octets.{Bytes}
use Rattle.refusal.specs.declared.Refusal.TheVariants.{ShortRoom, BadHead, NoPosition}
use Rattle.refusal.specs.Numbers.{number_of}
use Rattle.refusal.specs.Told.{Told, gives, refuses}
use Rattle.stream.specs.declared.Phase.{Phase}
use Rattle.stream.specs.declared.Phase.TheVariants.{First, Comment, Audio, Opened, Ended}
use Rattle.stream.specs.declared.Pending.{Pending}
use Rattle.stream.specs.declared.Pending.TheVariants.{Nothing, Held, Dropped}
use Rattle.stream.specs.Page.{Page, page_of, continued, completes}
use Rattle.stream.specs.Readings.{Readings}
use Rattle.stream.specs.Stream.{Segment, segments_of, left_from, open_from}
use Rattle.stream.specs.Feed.{Reader, Taken, feed}
use Rattle.stream.specs.Lent.{Lent}

-- the buffer c with s from a place on, and every other byte as it was
abbrev pub put : ℕ → Bytes → Bytes → Bytes
put at s c = take at c ++ s ++ drop (at + length s) c

-- ---- the first piece

-- the bytes of the segments up to the first that ends a packet
unfoldable pub first_bytes : List Segment → Bytes
first_bytes [] = []
first_bytes (s ∷ ss) = s.bytes ++ pick s.ends [] (first_bytes ss)

-- where the first piece goes: after the held bytes of the packet that it continues; a piece of the comment packet even where
-- nothing is held; no other
abbrev pub piece_at : Phase → Pending → Option ℕ
piece_at First q = none
piece_at Comment Nothing = some 0
piece_at Comment (Held n) = some n
piece_at Comment Dropped = none
piece_at Audio Nothing = none
piece_at Audio (Held n) = some n
piece_at Audio Dropped = none
piece_at Opened q = none
piece_at Ended q = none

abbrev pub put_at : Option ℕ → Bytes → Bytes → Bytes
put_at none s c = c
put_at (some n) s c = put n s c

abbrev pub with_piece : Reader → Page → Bytes → Bytes
with_piece r p c = put_at (piece_at r.core.phase r.core.pending) (first_bytes (segments_of p)) c

-- ---- a packet that begins on the page and is unfinished after it: its bytes, those after the last segment that ends a
-- packet, go to place 0

-- the last segment ends none; it belongs to a packet that begins here, unless the page is one piece of an earlier one
abbrev pub begins_one : Page → Bool
begins_one p = open_from false (segments_of p) && (not (continued p) || completes p)

abbrev pub with_begun : Page → Bytes → Bytes
with_begun p c = pick (begins_one p) (put 0 (left_from [] (segments_of p)) c) c

-- ---- c is the carry buffer before the feeding, d after it

pub record CarryIs (r : Reader) (p : Page) (c d : Bytes) (told : Told Taken) : Type 0 where
  pub untouched : (n : ℕ) → told ≡ refuses n → n < number_of BadHead → d ≡ c
  pub appended : (n : ℕ) → told ≡ refuses n → number_of BadHead ≤ n → d ≡ with_piece r p c
  pub accepted : (t : Taken) → told ≡ gives t → d ≡ with_begun p (with_piece r p c)

abbrev pub CarryExact : Type 0
CarryExact =
    (R : Readings) (r : Reader) (m : Lent) (b : Bytes)
    → CarryIs r (page_of b) m.carry (feed R r m b).lent.carry (feed R r m b).told

-- a number that feeding may tell: 1 to 19
pub record FeedingNumber (n : ℕ) : Type 0 where
  pub least : number_of ShortRoom ≤ n
  pub most : n ≤ number_of NoPosition

abbrev pub NumberTold : Type 0
NumberTold =
    (R : Readings) (r : Reader) (m : Lent) (b : Bytes) (n : ℕ) → (feed R r m b).told ≡ refuses n → FeedingNumber n
