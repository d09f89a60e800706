-- The feedings of a run: one for each page that it fed, in order, and what they accepted (RULES.md, 7). Assumes nothing.
use Rattle.std.specs.Prelude.{ℕ, zero, suc, ◌-◌, List, [], ◌∷◌, ◌++◌, length, take, drop}
use Rattle.std.proofs.Math.Option.{Option, none, some}
use Rattle.octets.specs.Pick.{pick}
use Rattle.octets.specs.Octets.{Bytes}
use Rattle.refusal.specs.Told.{Told, gives, refuses}
use Rattle.page_end.specs.End.{end_at}
use Rattle.stream.specs.Readings.{Readings}
use Rattle.stream.specs.Feed.{Reader, Entry, Taken}
use Rattle.stream.specs.Lent.{Lent}
use Rattle.stream.specs.Feedings.{Feeding, feed_in, reader_after, Shown}
use Rattle.feed_pages.specs.Run.{is_full, past, Reached, Why, refused, cut, full, Turn, goes, stops, fed_to, started}

-- ---- the feedings

-- the page that ends at e is fed with the carry buffer as it is and the lists past the places filled
abbrev pub feeding_to : Bytes → Reached → Lent → ℕ → Feeding
feeding_to b a m e = record { bytes = take (e - a.bytes) (drop a.bytes b); lent = past a.packets m }

-- after an accepted page
abbrev pub later_of : (Reached → Lent → List Feeding) → Turn → List Feeding
later_of on (goes next m) = on next m
later_of on (stops why m) = []

abbrev pub feedings_to : (Reached → Lent → List Feeding) → Readings → Bytes → Reached → Lent → Option ℕ → List Feeding
feedings_to on R b a m none = []
feedings_to on R b a m (some e) =
    feeding_to b a m e ∷ later_of on (fed_to a m e (feed_in R a.reader (feeding_to b a m e)))

-- of at most n pages
unfoldable pub feedings_of : ℕ → Readings → Bytes → Reached → Lent → List Feeding
feedings_of zero R b a m = []
feedings_of (suc n) R b a m =
    pick (is_full a.packets m) [] (feedings_to (feedings_of n R b) R b a m (end_at b a.bytes))

-- a refused one is the last
unfoldable pub run_feedings : Readings → Reader → Lent → Bytes → List Feeding
run_feedings R r m b = feedings_of (suc (length b)) R b (started r) m

-- ---- what they tell

abbrev pub refusal_in : Told Taken → Option ℕ
refusal_in (gives t) = none
refusal_in (refuses n) = some n

-- of each feeding, the number that refuses it
unfoldable pub numbers_of : Readings → Reader → List Feeding → List (Option ℕ)
numbers_of R r [] = []
numbers_of R r (f ∷ fs) = refusal_in (feed_in R r f).told ∷ numbers_of R (reader_after R r f) fs

-- what comes after the accepted pages
abbrev pub last_number : Why → List (Option ℕ)
last_number (refused n) = some n ∷ []
last_number cut = []
last_number full = []

-- pages one after the other
unfoldable pub together : List Bytes → Bytes
together [] = []
together (b ∷ bs) = b ++ together bs

-- the packets that a stream's pages list, in order
unfoldable pub entries_of : List Shown → List Entry
entries_of [] = []
entries_of (x ∷ xs) = x.listing.entries ++ entries_of xs
