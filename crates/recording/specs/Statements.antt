-- What is proved of the pages of a buffer and of their judgement, in addition to the contract. Assumes nothing.
use Rattle.std.specs.Prelude.{ℕ, suc, ◌-◌, ◌%◌, ◌^◌, ◌≤◌, ◌<◌, ◌≡◌, ◌⊎◌, true, false, List, [], ◌∷◌, length, take, drop}
use Rattle.std.proofs.Math.Option.{none, some}
use Rattle.octets.specs.Octets.{Bytes}
use Rattle.refusal.specs.declared.Refusal.TheVariants.{AfterEnd, BelowPreSkip, HeadersIncomplete}
use Rattle.refusal.specs.Numbers.{number_of}
use Rattle.refusal.specs.Told.{gives, refuses}
use Rattle.page_size.specs.Size.{is_one_page}
use Rattle.page_end.specs.End.{end_at}
use Rattle.granule.specs.declared.Position.TheVariants.{Unset}
use Rattle.stream.specs.Readings.{Readings, readings}
use Rattle.stream.specs.State.{in_headers}
use Rattle.stream.specs.Feed.{Reader, carried_in, start, Taken, Fed, feed}
use Rattle.stream.specs.Lent.{Lent, is_short}
use Rattle.stream.specs.Stream.{open_after, left_after, carried_of, head_of, phase_of, serial_of, marks, position_from, decoded_in}
use Rattle.stream.specs.Stream.{Listing, listings}
use Rattle.stream.specs.Feedings.{Feeding, feed_in, finally, carry_left, stream, bytes_of}
use Rattle.stream.specs.Statements.{Counted}
use Rattle.feed_pages.specs.Feedings.{together}
use Rattle.recording.specs.Pages.{pages_of}
use Rattle.recording.specs.Judging.{whole, refused, RefusedPage, first_refused, fresh, packets_in, judge_pages}
use Rattle.recording.specs.Feedings.{Feeds, feedings_from, shown_as}

-- ---- the pages of a buffer

-- they make up the buffer
abbrev pub PagesTogether : Type 0
PagesTogether = (b : Bytes) → together (pages_of b) ≡ b

unfoldable pub AllPages : List Bytes → Type 0
AllPages [] = Unit {0}
AllPages (b ∷ bs) = (is_one_page b ≡ true) × AllPages bs

-- whole pages one after the other are cut apart again
abbrev pub PagesApart : Type 0
PagesApart = (S : List Bytes) → AllPages S → pages_of (together S) ≡ S

-- ---- a whole stream

-- 3 and 4
pub record Good (R : Readings) (b : Bytes) : Type 0 where
  pub page : R.is_page b ≡ true
  pub checksummed : R.is_checksummed b ≡ true

unfoldable pub AllGood : Readings → List Bytes → Type 0
AllGood R [] = Unit {0}
AllGood R (b ∷ bs) = Good R b × AllGood R bs

-- what its pages alone determine: all are accepted, the headers are there, each page has its listing, and the counts are
-- those of the samples
pub record Whole (R : Readings) (S : List Bytes) : Type 0 where
  pub accepted : first_refused R fresh 0 S ≡ none
  pub headed : in_headers (phase_of S) ≡ false
  pub good : AllGood R S
  pub listed : length (listings R S) ≡ length S
  pub shown : bytes_of (shown_as S (listings R S)) ≡ S
  pub counted : Counted (shown_as S (listings R S)) (head_of R S).preskip (marks R S)

-- the reader r after these pages, `left` being what the last feeding left in its carry buffer
pub record After (R : Readings) (S : List Bytes) (r : Reader) (left : Bytes) : Type 0 where
  pub phase : r.core.phase ≡ phase_of S
  pub unfinished : carried_in r.core.pending left ≡ carried_of (open_after false S) (left_after [] S)
  pub position : r.core.position ≡ position_from Unset (marks R S)
  pub serial : r.core.serial ≡ serial_of S
  pub sequence : r.core.next ≡ length S % 2 ^ 32
  pub streams : r.core.streams ≡ (head_of R S).streams
  pub preskip : r.core.preskip ≡ (head_of R S).preskip
  pub skip : r.tally.skip ≡ (head_of R S).preskip - decoded_in (marks R S)

-- F feeds these pages, and the stream that it shows is theirs
pub record Streams (R : Readings) (S : List Bytes) (F : List Feeding) : Type 0 where
  pub shows : stream R start F ≡ shown_as S (listings R S)
  pub ends : After R S (finally R start F) (carry_left R start [] F)

abbrev pub WholeIs : Type 0
WholeIs =
    (R : Readings) (S : List Bytes) (pages packets : ℕ) → judge_pages R S ≡ whole pages packets
    → Whole R S × (pages ≡ length S) × (packets ≡ packets_in (listings R S))

-- all of them accepted, whole or not
abbrev pub AcceptedStreams : Type 0
AcceptedStreams =
    (R : Readings) (S : List Bytes) (F : List Feeding) → first_refused R fresh 0 S ≡ none → Feeds R S F → Streams R S F

abbrev pub WholeStreams : Type 0
WholeStreams =
    (R : Readings) (S : List Bytes) (F : List Feeding) (pages packets : ℕ) → judge_pages R S ≡ whole pages packets
    → Feeds R S F → Streams R S F

-- each page of an accepted stream is exactly one whole page, so that such a stream is cut apart again
abbrev pub AcceptedPages : Type 0
AcceptedPages =
    (crc : Bytes → ℕ) (S : List Bytes) → first_refused (readings crc) fresh 0 S ≡ none → AllPages S

-- the first pages of an accepted stream are accepted
abbrev pub AcceptedPrefix : Type 0
AcceptedPrefix =
    (R : Readings) (S : List Bytes) (k : ℕ) → first_refused R fresh 0 S ≡ none → first_refused R fresh 0 (take k S) ≡ none

-- any lent memory with room has such feedings
abbrev pub FeedingsFeed : Type 0
FeedingsFeed =
    (R : Readings) (S : List Bytes) (m : Lent) → is_short m ≡ false → Feeds R S (feedings_from R start m S)

-- ---- a second walk over an accepted stream, page by page

-- f is the feeding of page k: it tells the page's listing, and gives the reader after that page
pub record Walked (R : Readings) (S : List Bytes) (k : ℕ) (f : Fed) : Type 0 where
  pub next : Taken
  pub told : f.told ≡ gives next
  pub after : After R (take (suc k) S) next.reader f.lent.carry
  pub listing : (l : Listing) (ls : List Listing) → drop k (listings R S) ≡ l ∷ ls
      → l ≡ record { entries = f.entries; counts = next.counts }

abbrev pub WalkBegins : Type 0
WalkBegins = (R : Readings) (carry : Bytes) → After R [] start carry

abbrev pub WalkGoesOn : Type 0
WalkGoesOn =
    (R : Readings) (S : List Bytes) (k : ℕ) (b : Bytes) (later : List Bytes) (r : Reader) (m : Lent)
    → first_refused R fresh 0 S ≡ none → drop k S ≡ b ∷ later → After R (take k S) r m.carry → is_short m ≡ false
    → Walked R S k (feed R r m b)

-- ---- the same by places of the buffer

-- page k of the buffer b begins at the place `at`, or the buffer ends there after k pages
pub record Begins (b : Bytes) (at k : ℕ) : Type 0 where
  pub inside : at ≤ length b
  pub pages : pages_of (drop at b) ≡ drop k (pages_of b)

-- that page ends at e
pub record PageAt (b : Bytes) (at k e : ℕ) : Type 0 where
  pub page : drop k (pages_of b) ≡ take (e - at) (drop at b) ∷ pages_of (drop e b)
  pub next : Begins b e (suc k)

abbrev pub PlaceBegins : Type 0
PlaceBegins = (b : Bytes) → Begins b 0 0

abbrev pub PlaceGoesOn : Type 0
PlaceGoesOn = (b : Bytes) (at k e : ℕ) → Begins b at k → end_at b at ≡ some e → PageAt b at k e

-- in an accepted stream no page is cut
abbrev pub PlaceNotCut : Type 0
PlaceNotCut =
    (crc : Bytes → ℕ) (b : Bytes) (at k : ℕ) → first_refused (readings crc) fresh 0 (pages_of b) ≡ none → Begins b at k
    → at < length b → end_at b at ≡ none → ⊥

-- where the buffer ends after k pages, these are all its pages
abbrev pub PlaceEnds : Type 0
PlaceEnds = (b : Bytes) (k : ℕ) → Begins b (length b) k → take k (pages_of b) ≡ pages_of b

-- ---- a refused one

-- the pages before page k are accepted, and that one is refused by the number n
pub record RefusedAt (R : Readings) (S : List Bytes) (F : List Feeding) (n k : ℕ) : Type 0 where
  pub there : k < length S
  pub before : bytes_of (stream R start (take k F)) ≡ take k S
  pub told : (f : Feeding) (later : List Feeding) → drop k F ≡ f ∷ later
      → (feed_in R (finally R start (take k F)) f).told ≡ refuses n

abbrev pub RefusedStreams : Type 0
RefusedStreams =
    (R : Readings) (S : List Bytes) (F : List Feeding) (x : RefusedPage) → first_refused R fresh 0 S ≡ some x → Feeds R S F
    → RefusedAt R S F x.number x.page

-- no page is refused, but a header is due
pub record Unfinished (R : Readings) (S : List Bytes) (n k : ℕ) : Type 0 where
  pub number : n ≡ number_of HeadersIncomplete
  pub page : k ≡ length S
  pub accepted : first_refused R fresh 0 S ≡ none
  pub due : in_headers (phase_of S) ≡ true

abbrev pub RefusedIs : Type 0
RefusedIs =
    (R : Readings) (S : List Bytes) (n k : ℕ) → judge_pages R S ≡ refused n k
    → (first_refused R fresh 0 S ≡ some (record { number = n; page = k })) ⊎ Unfinished R S n k

-- by 2 to 18, or by 24: 1 is told for want of room only, and 19 of a reader opened part way only
abbrev pub JudgedNumbers : Type 0
JudgedNumbers =
    (R : Readings) (S : List Bytes) (n k : ℕ) → judge_pages R S ≡ refused n k
    → ((number_of AfterEnd ≤ n) × (n ≤ number_of BelowPreSkip)) ⊎ (n ≡ number_of HeadersIncomplete)
