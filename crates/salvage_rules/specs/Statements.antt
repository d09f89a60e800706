-- What is proved of the rules of salvage; of the changes that the lines tell, see `Changes`. Assumes nothing.
use Rattle.std.specs.Prelude.{ℕ, suc, ◌+◌, ◌-◌, ◌*◌, ◌%◌, ◌^◌, ◌≤◌, ◌≡◌, true, false, List, [], ◌∷◌, ◌++◌, map, eqb, length, take, drop}
use Rattle.std.proofs.Math.Option.{none, some}
use Rattle.octets.specs.Pick.{pick}
use Rattle.octets.specs.Octets.{Bytes, Octets}
use Rattle.page_crc.specs.Crc.{page_crc}
use Rattle.page_size.specs.Size.{size_of}
use Rattle.page_reader.specs.Reading.{read_page}
use Rattle.stream.specs.Page.{page_of}
use Rattle.stream.specs.Readings.{Readings, readings}
use Rattle.stream.specs.Stream.{listings}
use Rattle.feed_pages.specs.Feedings.{together}
use Rattle.recording.specs.Pages.{pages_of}
use Rattle.recording.specs.Judging.{whole, packets_in, judge_buffer}
use Rattle.salvage_search.specs.Search.{is_good, starts_page, next_page}
use Rattle.salvage_rules.specs.Good.{Good, end_of, good_at, good_from, good_pages, serial_in}
use Rattle.salvage_rules.specs.Tidy.{Tidied, tidy}
use Rattle.salvage_rules.specs.Lines.{Line, skipped, lines_from}
use Rattle.salvage_rules.specs.Rounds.{pages_out, refused_in, rounds, settled, kept_in, saved, salvage}

-- ---- good pages, by the search

-- from a place on they are those from the next place on at which a page starts
abbrev pub GoodNext : Type 0
GoodNext =
    (crc : Bytes → ℕ) (b : Bytes) (from : ℕ) → from ≤ length b
    → good_from crc 0 from (drop from b) ≡ good_from crc 0 (next_page crc b from) (drop (next_page crc b from) b)

-- there the page comes first, and then those after its end
abbrev pub GoodThere : Type 0
GoodThere =
    (crc : Bytes → ℕ) (at : ℕ) (s : Bytes) → starts_page crc s ≡ true
    → good_from crc 0 at s ≡ good_at at s ∷ good_from crc 0 (at + size_of s) (drop (size_of s) s)

abbrev pub GoodOver : Type 0
GoodOver = (crc : Bytes → ℕ) (at : ℕ) → good_from crc 0 at [] ≡ []

-- ---- rounds

-- the reader refuses none of the settled pages
abbrev pub SettledAccepted : Type 0
SettledAccepted = (R : Readings) (gs : List Good) → refused_in R (settled R gs) ≡ none

-- settling ends: more rounds than there are pages change nothing
abbrev pub MoreRounds : Type 0
MoreRounds = (R : Readings) (gs : List Good) (n : ℕ) → length gs ≤ n → rounds R n gs ≡ settled R gs

-- pages of which none is refused are settled
abbrev pub AcceptedSettled : Type 0
AcceptedSettled = (R : Readings) (gs : List Good) → refused_in R gs ≡ none → settled R gs ≡ gs

-- ---- pages that nothing is done to

-- numbered one after the other, the first by n
unfoldable pub Numbered : ℕ → List Good → Type 0
Numbered n [] = Unit {0}
Numbered n (g ∷ gs) = (g.page.header.sequence ≡ n % 2 ^ 32) × Numbered (suc n) gs

-- a page that nothing is done to
abbrev pub as_it_is : Good → Tidied
as_it_is g = record { old = g; page = g.page; cleared = false; cuts = [] }

-- such pages are tidy
abbrev pub UnbrokenStays : Type 0
UnbrokenStays = (gs : List Good) → Numbered 0 gs → tidy gs ≡ map as_it_is gs

-- ---- what is saved

-- an accepted stream with whole headers comes out as it is, with no lines
abbrev pub AcceptedUnchanged : Type 0
AcceptedUnchanged =
    (b : Bytes) (pages packets : ℕ) → Octets b → judge_buffer (readings page_crc) b ≡ whole pages packets
    → salvage page_crc b ≡ saved b []

-- what is saved is a whole stream that the full reader accepts
abbrev pub SavedWhole : Type 0
SavedWhole =
    (crc : Bytes → ℕ) (b out : Bytes) (ls : List Line) → salvage crc b ≡ saved out ls
    → judge_buffer (readings crc) out ≡ whole (length (pages_of out)) (packets_in (listings (readings crc) (pages_of out)))

-- salvaging it again changes nothing and tells no lines
abbrev pub SavedStays : Type 0
SavedStays =
    (b out : Bytes) (ls : List Line) → Octets b → salvage page_crc b ≡ saved out ls → salvage page_crc out ≡ saved out []

-- ---- the kept pages in the input

-- each of them
unfoldable pub Each : {A : Type 0} → (A → Type 0) → List A → Type 0
Each P [] = Unit {0}
Each P (x ∷ xs) = P x × Each P xs

-- the bytes of the input that a page takes
abbrev pub bytes_in : Bytes → Good → Bytes
bytes_in b g = take (end_of g - g.place) (drop g.place b)

-- they are a page by 3 and 4, and g has its fields, its lacing values and its body
pub record Read (crc : Bytes → ℕ) (b : Bytes) (g : Good) : Type 0 where
  pub good : is_good (read_page crc (bytes_in b g)) ≡ true
  pub page : page_of (bytes_in b g) ≡ g.page

abbrev pub KeptRead : Type 0
KeptRead = (crc : Bytes → ℕ) (b : Bytes) → Each (Read crc b) (kept_in crc b)

-- all have the serial of the first good page with a first-page mark
abbrev pub KeptSerial : Type 0
KeptSerial =
    (crc : Bytes → ℕ) (b : Bytes) (n : ℕ) → serial_in (good_pages crc b) ≡ some n
    → Each (λ (g : Good). g.page.header.serial ≡ n) (kept_in crc b)

-- ---- the input made up of skipped runs and kept pages

-- the pages are in order and apart, from the place `at` to the place n
unfoldable pub Apart : ℕ → ℕ → List Good → Type 0
Apart at n [] = at ≤ n
Apart at n (g ∷ gs) = (at ≤ g.place) × Apart (end_of g) n gs

-- a line for each longest run of bytes that is in none of them
unfoldable pub between : ℕ → ℕ → List Good → List Line
between at n [] = skipped at n
between at n (g ∷ gs) = skipped at g.place ++ between (end_of g) n gs

-- of some lines, those that tell of skipped runs
unfoldable pub skips_in : List Line → List Line
skips_in [] = []
skips_in (l ∷ ls) = pick (eqb l.what 0) (l ∷ skips_in ls) (skips_in ls)

unfoldable pub bytes_of : List Line → ℕ
bytes_of [] = 0
bytes_of (l ∷ ls) = l.bytes + bytes_of ls

-- the bytes that pages take in the input
unfoldable pub sizes_of : List Good → ℕ
sizes_of [] = 0
sizes_of (g ∷ gs) = end_of g - g.place + sizes_of gs

-- an input of n bytes, of which gs are kept, by the lines ls
pub record MadeUp (n : ℕ) (gs : List Good) (ls : List Line) : Type 0 where
  pub apart : Apart 0 n gs
  pub skips : skips_in ls ≡ between 0 n gs
  pub sum : bytes_of (skips_in ls) + sizes_of gs ≡ n

abbrev pub InputMadeUp : Type 0
InputMadeUp =
    (crc : Bytes → ℕ) (b : Bytes) → MadeUp (length b) (kept_in crc b) (lines_from (length b) 0 (tidy (kept_in crc b)))

-- ---- room

-- of an input of n bytes: as many bytes of output, and a line for each 7 of them and one more, are always enough
pub record Room (n : ℕ) (out : Bytes) (ls : List Line) : Type 0 where
  pub output : length out ≤ n
  pub lines : 7 * length ls ≤ n + 7

abbrev pub RoomEnough : Type 0
RoomEnough =
    (crc : Bytes → ℕ) (b : Bytes)
    → Room (length b) (together (pages_out (kept_in crc b))) (lines_from (length b) 0 (tidy (kept_in crc b)))
