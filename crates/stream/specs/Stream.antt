-- A stream with no reader in it: what its pages alone determine (RULES.md, 8; demand 3). A stream is a list of pages, as bytes.
-- Packets are joined from the pages' segments, and samples are counted one by one. Assumes nothing.
use Rattle.std.specs.Prelude.{ℕ, ◌+◌, Bool, false, not, ◌&&◌, List, [], ◌∷◌, ◌++◌, map, ltb, length, take, drop}
use Rattle.octets.specs.Pick.{pick}
use Rattle.octets.specs.Octets.{Bytes}
use Rattle.head_fields.specs.declared.Head.{Head}
use Rattle.head_reader.specs.Reading.{no_head}
use Rattle.granule.specs.declared.Position.{Position}
use Rattle.granule.specs.declared.Position.TheVariants.{Unset, At}
use Rattle.granule.specs.Samples.{tally, is_trimmed}
use Rattle.granule.specs.Judging.{before, hole, from}
use Rattle.stream.specs.declared.Counts.{Counts}
use Rattle.stream.specs.declared.Phase.{Phase}
use Rattle.stream.specs.declared.Phase.TheVariants.{First, Comment, Audio, Ended}
use Rattle.stream.specs.Page.{Page, page_of, last, granule_of, completes}
use Rattle.packet_reader.specs.declared.Measure.{Measure}
use Rattle.stream.specs.Readings.{Readings}
use Rattle.stream.specs.State.{Carried, nothing, held}
use Rattle.stream.specs.Packets.{samples_of}
use Rattle.stream.specs.Rules.{first_packet, after_position}
use Rattle.stream.specs.Feed.{Entry, entry_of, no_counts}

-- ---- packets by their segments

-- one lacing value's bytes; a value below 255 ends a packet
pub record Segment : Type 0 where
  pub bytes : Bytes
  pub ends : Bool

unfoldable pub segments : Bytes → Bytes → List Segment
segments [] body = []
segments (v ∷ l) body = record { bytes = take v body; ends = ltb v 255 } ∷ segments l (drop v body)

unfoldable pub segments_of : Page → List Segment
segments_of p = segments p.lacing p.body

-- the packets that end among these segments, and the bytes of the one that is then unfinished; h was begun before them
unfoldable pub packets_from : Bytes → List Segment → List Bytes
packets_from h [] = []
packets_from h (s ∷ ss) = pick s.ends ((h ++ s.bytes) ∷ packets_from [] ss) (packets_from (h ++ s.bytes) ss)

unfoldable pub left_from : Bytes → List Segment → Bytes
left_from h [] = h
left_from h (s ∷ ss) = pick s.ends (left_from [] ss) (left_from (h ++ s.bytes) ss)

-- a packet is unfinished: the last segment of all does not end one
unfoldable pub open_from : Bool → List Segment → Bool
open_from o [] = o
open_from o (s ∷ ss) = open_from (not s.ends) ss

-- the same after some pages
unfoldable pub open_after : Bool → List Bytes → Bool
open_after o [] = o
open_after o (b ∷ bs) = open_after (open_from o (segments_of (page_of b))) bs

unfoldable pub left_after : Bytes → List Bytes → Bytes
left_after h [] = h
left_after h (b ∷ bs) = left_after (left_from h (segments_of (page_of b))) bs

-- the unfinished packet after all pages of a stream
abbrev pub carried_of : Bool → Bytes → Carried
carried_of o h = pick o (held (length h) h) nothing

-- ---- headers and audio pages

-- the header record: the first page's packet
unfoldable pub head_of : Readings → List Bytes → Head
head_of R [] = no_head
head_of R (b ∷ bs) = R.head_of (first_packet (packets_from [] (segments_of (page_of b))))

-- the audio pages: those after the one that completes the comment packet, which is the first to complete one after the first
-- page
unfoldable pub after_comment {ℓ} : {A : Type ℓ} → (A → Bytes) → List A → List A
after_comment bytes [] = []
after_comment bytes (x ∷ xs) = pick (completes (page_of (bytes x))) xs (after_comment bytes xs)

unfoldable pub audio_pages {ℓ} : {A : Type ℓ} → (A → Bytes) → List A → List A
audio_pages bytes [] = []
audio_pages bytes (x ∷ xs) = after_comment bytes xs

-- how far a stream has come: ended, if its last page is marked last
unfoldable pub ended_after : Bool → List Bytes → Bool
ended_after end [] = end
ended_after end (b ∷ bs) = ended_after (last (page_of b)) bs

abbrev pub audio_phase : Bool → Phase
audio_phase end = pick end Ended Audio

unfoldable pub comment_phase : List Bytes → Phase
comment_phase [] = Comment
comment_phase (b ∷ bs) = pick (completes (page_of b)) (audio_phase (ended_after false bs)) (comment_phase bs)

unfoldable pub phase_of : List Bytes → Phase
phase_of [] = First
phase_of (b ∷ bs) = comment_phase bs

-- the serial: the first page's
unfoldable pub serial_of : List Bytes → ℕ
serial_of [] = 0
serial_of (b ∷ bs) = (page_of b).header.serial

-- ---- the pages where an audio packet completes

-- G, the measures of the packets, and whether the page is marked last
pub record Mark : Type 0 where
  pub granule : ℕ
  pub measures : List Measure
  pub last : Bool

-- D
abbrev pub decoded : Mark → ℕ
decoded m = samples_of m.measures

-- the measures of the packets that complete on a page, h being begun before it
abbrev pub measures_from : Readings → ℕ → Bytes → Page → List Measure
measures_from R n h p = map (R.measure_of n) (packets_from h (segments_of p))

abbrev pub mark_from : Readings → ℕ → Bytes → Page → Mark
mark_from R n h p = record { granule = granule_of p; measures = measures_from R n h p; last = last p }

unfoldable pub marks_from : Readings → ℕ → Bytes → List Bytes → List Mark
marks_from R n h [] = []
marks_from R n h (b ∷ bs) =
    pick (completes (page_of b))
    (mark_from R n h (page_of b) ∷ marks_from R n (left_from h (segments_of (page_of b))) bs)
    (marks_from R n (left_from h (segments_of (page_of b))) bs)

-- of a stream
unfoldable pub marks : Readings → List Bytes → List Mark
marks R bs = marks_from R (head_of R bs).streams [] (audio_pages (λ (b : Bytes). b) bs)

-- ---- positions

-- the last granule position
unfoldable pub last_from : ℕ → List Mark → ℕ
last_from q [] = q
last_from q (m ∷ ms) = last_from m.granule ms

unfoldable pub last_granule : List Mark → ℕ
last_granule [] = 0
last_granule (m ∷ ms) = last_from m.granule ms

abbrev pub position_from : Position → List Mark → Position
position_from position [] = position
position_from position (m ∷ ms) = At (last_from m.granule ms)

-- the initial position
unfoldable pub initial : List Mark → ℕ
initial [] = 0
initial (m ∷ ms) = before Unset m.granule (decoded m)

-- the holes
unfoldable pub holes_from : Position → List Mark → ℕ
holes_from position [] = 0
holes_from position (m ∷ ms) = hole position m.granule (decoded m) + holes_from (At m.granule) ms

abbrev pub holes : List Mark → ℕ
holes ms = holes_from Unset ms

unfoldable pub decoded_in : List Mark → ℕ
decoded_in [] = 0
decoded_in (m ∷ ms) = decoded m + decoded_in ms

-- ---- samples, one by one

-- Sample j of a mark whose packets begin after position `at`, n samples being decoded before the mark. It is trimmed if its
-- position is above the G of a page marked last; else skipped, if fewer than pre-skip decoded samples precede it; else kept.
abbrev pub sample_trimmed : ℕ → Mark → ℕ → ℕ → Bool
sample_trimmed n m at j = is_trimmed m.last m.granule at j

abbrev pub sample_skipped : ℕ → ℕ → Mark → ℕ → ℕ → Bool
sample_skipped preskip n m at j = not (sample_trimmed n m at j) && ltb (n + j) preskip

abbrev pub sample_kept : ℕ → ℕ → Mark → ℕ → ℕ → Bool
sample_kept preskip n m at j = not (sample_trimmed n m at j) && not (ltb (n + j) preskip)

-- the samples that pass a test, n being decoded before these marks and `position` the last granule before them
unfoldable pub count_from : (ℕ → Mark → ℕ → ℕ → Bool) → ℕ → Position → List Mark → ℕ
count_from test n position [] = 0
count_from test n position (m ∷ ms) =
    tally (test n m (from position m.last m.granule (decoded m))) (decoded m)
    + count_from test (n + decoded m) (At m.granule) ms

abbrev pub kept_count : ℕ → List Mark → ℕ
kept_count preskip ms = count_from (sample_kept preskip) 0 Unset ms

abbrev pub skipped_count : ℕ → List Mark → ℕ
skipped_count preskip ms = count_from (sample_skipped preskip) 0 Unset ms

abbrev pub trimmed_count : List Mark → ℕ
trimmed_count ms = count_from sample_trimmed 0 Unset ms

-- ---- what is told of each page

pub record Listing : Type 0 where
  pub entries : List Entry
  pub counts : Counts

-- of a header page
abbrev pub nothing_listed : Listing
nothing_listed = record { entries = []; counts = no_counts }

-- the packets of a mark, n samples being decoded before the first, which begins after `at`
unfoldable pub entries_from : ℕ → ℕ → Mark → ℕ → List Measure → List Entry
entries_from preskip n m at [] = []
entries_from preskip n m at (d ∷ ds) =
    entry_of at d (tally (sample_kept preskip n m at) d.samples)
    ∷ entries_from preskip (n + d.samples) m (at + d.samples) ds

abbrev pub counts_from : ℕ → ℕ → Mark → ℕ → ℕ → Counts
counts_from preskip n m at hole = record {
  packets = length m.measures;
  samples = decoded m;
  kept = tally (sample_kept preskip n m at) (decoded m);
  skipped = tally (sample_skipped preskip n m at) (decoded m);
  trimmed = tally (sample_trimmed n m at) (decoded m);
  hole = hole;
}

-- of a page with this mark, which counts where a packet completes
abbrev pub listing_from : ℕ → Position → ℕ → Bool → Mark → Listing
listing_from preskip position n done m = record {
  entries = entries_from preskip n m (from position m.last m.granule (decoded m)) m.measures;
  counts = counts_from preskip n m (from position m.last m.granule (decoded m))
      (pick done (hole position m.granule (decoded m)) 0);
}

-- of audio pages: h is unfinished before them, `position` the last granule, n the samples decoded
unfoldable pub audio_listings : Readings → Head → Bytes → Position → ℕ → List Bytes → List Listing
audio_listings R head h position n [] = []
audio_listings R head h position n (b ∷ bs) =
    listing_from head.preskip position n (completes (page_of b)) (mark_from R head.streams h (page_of b))
    ∷ audio_listings R head (left_from h (segments_of (page_of b)))
    (after_position (completes (page_of b)) position (granule_of (page_of b)))
    (n + samples_of (measures_from R head.streams h (page_of b))) bs

unfoldable pub comment_listings : Readings → Head → List Bytes → List Listing
comment_listings R head [] = []
comment_listings R head (b ∷ bs) =
    nothing_listed ∷ pick (completes (page_of b)) (audio_listings R head [] Unset 0 bs) (comment_listings R head bs)

-- of a stream
unfoldable pub listings : Readings → List Bytes → List Listing
listings R [] = []
listings R (b ∷ bs) = nothing_listed ∷ comment_listings R (head_of R (b ∷ bs)) bs
