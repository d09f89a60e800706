-- What a reader opened part way counts: nothing is skipped, and of each packet all is kept but what is trimmed of it (RULES.md,
-- 9). Assumes nothing.
use Rattle.std.specs.Prelude.{ℕ, ◌+◌, ◌-◌, ◌≡◌, false, List, [], ◌∷◌, map}
use Rattle.octets.specs.Octets.{Bytes}
use Rattle.refusal.specs.Told.{gives}
use Rattle.head_fields.specs.declared.Head.{Head}
use Rattle.granule.specs.Samples.{trimmed_of}
use Rattle.stream.specs.declared.Counts.{Counts}
use Rattle.stream.specs.Page.{Page, page_of, last, granule_of}
use Rattle.stream.specs.Readings.{Readings}
use Rattle.stream.specs.State.{is_first}
use Rattle.stream.specs.Feed.{Reader, open_at, Entry, Taken, feed}
use Rattle.stream.specs.Lent.{Lent}
use Rattle.stream.specs.Feedings.{Feeding, reader_by, finally, Shown, stream}

-- the samples trimmed of a listed packet, each looked at: the packet begins after its end stamp less its length
abbrev pub trimmed_in : Page → Entry → ℕ
trimmed_in p e = trimmed_of (last p) (granule_of p) (e.end - e.samples) e.samples

-- of a page's list and its record
pub record AllButTrimmed (p : Page) (es : List Entry) (c : Counts) : Type 0 where
  pub each : map (λ (e : Entry). e.kept + trimmed_in p e) es ≡ map (λ (e : Entry). e.samples) es
  pub skipped : c.skipped ≡ 0
  pub kept : c.kept + c.trimmed ≡ c.samples

-- nothing is left to skip, and the first page, which sets what is to skip, is past
pub record Unskipping (r : Reader) : Type 0 where
  pub skip : r.tally.skip ≡ 0
  pub past : is_first r.core.phase ≡ false

-- any feeding, whatever the lent memory
abbrev pub FeedsUnskipped : Type 0
FeedsUnskipped =
    (R : Readings) (r : Reader) (m : Lent) (b : Bytes) (t : Taken) → Unskipping r → (feed R r m b).told ≡ gives t
    → AllButTrimmed (page_of b) (feed R r m b).entries t.counts

abbrev pub StaysUnskipping : Type 0
StaysUnskipping =
    (R : Readings) (r : Reader) (m : Lent) (b : Bytes) → Unskipping r → Unskipping (reader_by (feed R r m b).told r)

-- ---- over any list of feedings to a reader opened part way, each with any lent memory

unfoldable pub EachAllButTrimmed : List Shown → Type 0
EachAllButTrimmed [] = Unit {0}
EachAllButTrimmed (x ∷ xs) =
    AllButTrimmed (page_of x.bytes) x.listing.entries x.listing.counts × EachAllButTrimmed xs

pub record SkipsNothing (R : Readings) (h : Head) (F : List Feeding) : Type 0 where
  pub pages : EachAllButTrimmed (stream R (open_at h) F)
  pub skip : (finally R (open_at h) F).tally.skip ≡ 0

abbrev pub OpenedUnskipped : Type 0
OpenedUnskipped = (R : Readings) (h : Head) (F : List Feeding) → SkipsNothing R h F
