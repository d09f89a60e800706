-- The totals that a reader keeps (RULES.md, 8 and 9). After any list of feedings they are the counts of the stream's samples, one
-- by one, and none of them wraps. Assumes nothing.
use Rattle.std.specs.Prelude.{ℕ, ◌+◌, ◌-◌, ◌*◌, ◌≤◌, ◌≡◌, List, [], ◌∷◌, map}
use Rattle.octets.specs.Pick.{pick}
use Rattle.octets.specs.Octets.{Bytes, total}
use Rattle.limits.specs.Limits.{list_max}
use Rattle.head_fields.specs.declared.Head.{Head}
use Rattle.packet_frames.specs.Frames.{samples_max}
use Rattle.granule.specs.declared.Position.{Position}
use Rattle.granule.specs.declared.Position.TheVariants.{Joined, At}
use Rattle.granule.specs.Judging.{granule_max, hole}
use Rattle.stream.specs.declared.Tally.{Tally}
use Rattle.stream.specs.Page.{page_of, granule_of, completes}
use Rattle.stream.specs.Readings.{readings}
use Rattle.stream.specs.Feed.{Reader, start, open_at, Entry}
use Rattle.stream.specs.Stream.{head_of, Mark, marks, last_granule, initial, holes, kept_count, skipped_count, trimmed_count}
use Rattle.stream.specs.Feedings.{Feeding, finally, HandedOn, Shown, stream, bytes_of}
use Rattle.stream.specs.Statements.{kept_listed, AllOctets}
use Rattle.stream.specs.Unskipped.{trimmed_in}

-- how many samples can be trimmed: only the page marked last trims, and it completes at most 255 packets
abbrev pub trimmed_most : ℕ
trimmed_most = list_max * samples_max

-- ---- a reader just started

-- t is its tally, ms are the marks of the stream that it accepted. The last two fields bound the totals.
pub record Totals (t : Tally) (preskip : ℕ) (ms : List Mark) : Type 0 where
  pub kept : t.kept ≡ kept_count preskip ms
  pub skipped : t.skipped ≡ skipped_count preskip ms
  pub trimmed : t.trimmed ≡ trimmed_count ms
  pub hole : t.hole ≡ holes ms
  pub spans : initial ms + t.kept + t.skipped + t.hole ≡ last_granule ms
  pub small : last_granule ms ≤ granule_max
  pub few : t.trimmed ≤ trimmed_most

abbrev pub StreamTotals : Type 0
StreamTotals =
    (crc : Bytes → ℕ) (F : List Feeding) → AllOctets F → HandedOn (readings crc) start [] F
    → Totals (finally (readings crc) start F).tally
    (head_of (readings crc) (bytes_of (stream (readings crc) start F))).preskip
    (marks (readings crc) (bytes_of (stream (readings crc) start F)))

-- ---- a reader opened part way: S are the pages that it accepted, with what it listed

-- D of a page: the samples of the packets listed
abbrev pub samples_in : Shown → ℕ
samples_in x = total (map (λ (e : Entry). e.samples) x.listing.entries)

abbrev pub samples_listed : List Shown → ℕ
samples_listed S = total (map samples_in S)

-- the samples trimmed of the packets listed
abbrev pub trimmed_listed : List Shown → ℕ
trimmed_listed S = total (map (λ (x : Shown). total (map (trimmed_in (page_of x.bytes)) x.listing.entries)) S)

-- the position before the packets of the first page that gave a granule position
unfoldable pub opened_initial : List Shown → ℕ
opened_initial [] = 0
opened_initial (x ∷ xs) = pick (completes (page_of x.bytes)) (granule_of (page_of x.bytes) - samples_in x) (opened_initial xs)

-- the holes, `position` being the last granule position before these pages
unfoldable pub opened_holes : Position → List Shown → ℕ
opened_holes position [] = 0
opened_holes position (x ∷ xs) =
    pick (completes (page_of x.bytes))
    (hole position (granule_of (page_of x.bytes)) (samples_in x) + opened_holes (At (granule_of (page_of x.bytes))) xs)
    (opened_holes position xs)

pub record OpenedTotals (S : List Shown) (r : Reader) : Type 0 where
  pub skipped : r.tally.skipped ≡ 0
  pub kept : r.tally.kept ≡ kept_listed S
  pub trimmed : r.tally.trimmed ≡ trimmed_listed S
  pub samples : r.tally.kept + r.tally.trimmed ≡ samples_listed S
  pub hole : r.tally.hole ≡ opened_holes Joined S
  pub spans : (g : ℕ) → r.core.position ≡ At g → opened_initial S + r.tally.kept + r.tally.hole ≡ g
  pub small : (g : ℕ) → r.core.position ≡ At g → g ≤ granule_max
  pub few : r.tally.trimmed ≤ trimmed_most

abbrev pub OpenedStreamTotals : Type 0
OpenedStreamTotals =
    (crc : Bytes → ℕ) (h : Head) (F : List Feeding) → AllOctets F
    → OpenedTotals (stream (readings crc) (open_at h) F) (finally (readings crc) (open_at h) F)
