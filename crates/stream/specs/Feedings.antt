-- Lists of feedings to one reader, the stream that it accepted, and what a second reader is to be told of it (demand 3).
-- Assumes nothing.
use Rattle.std.specs.Prelude.{ℕ, ◌≡◌, Bool, true, false, not, ◌&&◌, ◌||◌, List, [], ◌∷◌, map, T, take}
use Rattle.octets.specs.Pick.{pick}
use Rattle.octets.specs.Octets.{Bytes}
use Rattle.refusal.specs.declared.Refusal.TheVariants.{NoPosition}
use Rattle.refusal.specs.Numbers.{number_of}
use Rattle.refusal.specs.Told.{Told, gives, refuses, retold}
use Rattle.stream.specs.declared.Pending.{Pending}
use Rattle.stream.specs.declared.Pending.TheVariants.{Nothing, Held, Dropped}
use Rattle.stream.specs.Page.{page_of, completes, last}
use Rattle.stream.specs.Readings.{Readings}
use Rattle.stream.specs.Rules.{Stamp}
use Rattle.stream.specs.Feed.{Reader, Entry, stamp_of, Taken, Fed, feed}
use Rattle.stream.specs.Lent.{Lent, is_short}
use Rattle.stream.specs.Stream.{Listing}

-- each brings its own bytes and lent memory
pub record Feeding : Type 0 where
  pub bytes : Bytes
  pub lent : Lent

abbrev pub feed_in : Readings → Reader → Feeding → Fed
feed_in R r f = feed R r f.lent f.bytes

-- the reader handed on: a refusal leaves it
abbrev pub reader_by : Told Taken → Reader → Reader
reader_by (gives t) r = t.reader
reader_by (refuses n) r = r

abbrev pub reader_after : Readings → Reader → Feeding → Reader
reader_after R r f = reader_by (feed_in R r f).told r

unfoldable pub finally : Readings → Reader → List Feeding → Reader
finally R r [] = r
finally R r (f ∷ fs) = finally R (reader_after R r f) fs

-- ---- the carry buffer from feeding to feeding

-- the held count
abbrev pub held_of : Pending → ℕ
held_of Nothing = 0
held_of (Held n) = n
held_of Dropped = 0

-- what the last feeding with room left in its carry buffer, `old` before them
abbrev pub left_in : Readings → Reader → Feeding → Bytes → Bytes
left_in R r f old = pick (is_short f.lent) old (feed_in R r f).lent.carry

unfoldable pub carry_left : Readings → Reader → Bytes → List Feeding → Bytes
carry_left R r old [] = old
carry_left R r old (f ∷ fs) = carry_left R (reader_after R r f) (left_in R r f old) fs

-- Each carry buffer agrees up to the held count with what the last left; past it it is free, and so is its length. Nothing
-- is asked of a feeding that lacks the room, which is refused before its buffer is looked at.
unfoldable pub HandedOn : Readings → Reader → Bytes → List Feeding → Type 0
HandedOn R r old [] = Unit {0}
HandedOn R r old (f ∷ fs) =
    (is_short f.lent ≡ false → take (held_of r.core.pending) f.lent.carry ≡ take (held_of r.core.pending) old)
    × HandedOn R (reader_after R r f) (left_in R r f old) fs

-- ---- the stream: the pages that the reader accepted, in order, each with what was told of it

pub record Shown : Type 0 where
  pub bytes : Bytes
  pub listing : Listing

abbrev pub show_as : Told Taken → List Entry → Bytes → List Shown → List Shown
show_as (gives t) es b later = record { bytes = b; listing = record { entries = es; counts = t.counts } } ∷ later
show_as (refuses n) es b later = later

unfoldable pub stream : Readings → Reader → List Feeding → List Shown
stream R r [] = []
stream R r (f ∷ fs) =
    show_as (feed_in R r f).told (feed_in R r f).entries f.bytes (stream R (reader_after R r f) fs)

abbrev pub bytes_in : Shown → Bytes
bytes_in x = x.bytes

abbrev pub bytes_of : List Shown → List Bytes
bytes_of = map bytes_in

abbrev pub stamps_of : Shown → List Stamp
stamps_of x = map stamp_of x.listing.entries

-- ---- the second reader: a list of feedings, some of them marked

pub record Marked : Type 0 where
  pub mark : Bool
  pub fed : Feeding

unfoldable pub all_of : List Marked → List Feeding
all_of [] = []
all_of (m ∷ ms) = m.fed ∷ all_of ms

-- the bytes of the marked ones
unfoldable pub marked : List Marked → List Bytes
marked [] = []
marked (m ∷ ms) = pick m.mark (m.fed.bytes ∷ marked ms) (marked ms)

-- a marked feeding has the room asked
unfoldable pub RoomAtMarks : List Marked → Type 0
RoomAtMarks [] = Unit {0}
RoomAtMarks (m ∷ ms) = (m.mark ≡ true → is_short m.fed.lent ≡ false) × RoomAtMarks ms

abbrev pub is_refused : Told Taken → Bool
is_refused (gives t) = false
is_refused (refuses n) = true

-- each feeding without a mark is refused where it is; nothing is asked of a marked one
unfoldable pub OthersRefused : Readings → Reader → List Marked → Type 0
OthersRefused R r [] = Unit {0}
OthersRefused R r (m ∷ ms) =
    T (m.mark || is_refused (feed_in R r m.fed).told) × OthersRefused R (reader_after R r m.fed) ms

-- what a feeding tells, without the kept counts: the stamps, lengths and frames that it lists, or a number
abbrev pub tell : Fed → Told (List Stamp)
tell f = retold (λ (t : Taken). map stamp_of f.entries) f.told

-- what was told at the marks
unfoldable pub told_at_marks : Readings → Reader → List Marked → List (Told (List Stamp))
told_at_marks R r [] = []
told_at_marks R r (m ∷ ms) =
    pick m.mark
    (tell (feed_in R r m.fed) ∷ told_at_marks R (reader_after R r m.fed) ms)
    (told_at_marks R (reader_after R r m.fed) ms)

-- ---- what a reader opened at the first of these pages is told, from what the first reader listed

abbrev pub drop_if {ℓ} : {A : Type ℓ} → Bool → List A → List A
drop_if b [] = []
drop_if true (x ∷ xs) = xs
drop_if false (x ∷ xs) = x ∷ xs

-- `began`: the first packet to complete began before the first of these pages. `placed`: an earlier one of them completed a
-- packet. 19 where the page is marked last, completes a packet, and none did so before; else the first reader's list, less
-- the packet that began before.
unfoldable pub joined_from : Bool → Bool → List Shown → List (Told (List Stamp))
joined_from began placed [] = []
joined_from began true (x ∷ xs) = gives (stamps_of x) ∷ joined_from began true xs
joined_from began false (x ∷ xs) =
    pick (completes (page_of x.bytes))
    (pick (last (page_of x.bytes))
    (refuses (number_of NoPosition) ∷ joined_from began false xs)
    (gives (drop_if began (stamps_of x)) ∷ joined_from began true xs))
    (gives (stamps_of x) ∷ joined_from began false xs)

abbrev pub joined : Bool → List Shown → List (Told (List Stamp))
joined began xs = joined_from began false xs

-- one of these pages gave a granule position, and was not the last
unfoldable pub has_position : List Shown → Bool
has_position [] = false
has_position (x ∷ xs) = (completes (page_of x.bytes) && not (last (page_of x.bytes))) || has_position xs
