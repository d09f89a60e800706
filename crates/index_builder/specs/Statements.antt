-- What is proved of the index of a whole stream, in addition to the contract. Assumes nothing.
use Rattle.std.specs.Prelude.{ℕ, ◌≡◌, List, [], map, drop, get_or}
use Rattle.std.proofs.Math.Option.{none}
use Rattle.octets.specs.Octets.{Bytes}
use Rattle.stream.specs.Readings.{Readings, readings}
use Rattle.stream.specs.Stream.{Mark, marks}
use Rattle.stream.specs.Feedings.{Feeding, HandedOn, Marked, all_of, marked, RoomAtMarks, OthersRefused, told_at_marks}
use Rattle.stream.specs.Feedings.{joined, bytes_of}
use Rattle.stream.specs.Statements.{audio_in, began_before, opened_in}
use Rattle.recording.specs.Pages.{pages_of}
use Rattle.recording.specs.Judging.{whole, judge_buffer, judge_pages}
use Rattle.recording.specs.Feedings.{Feeds}
use Rattle.index_search.specs.Index.{no_record, granules_of, first_fall, at_record, seek_of}
use Rattle.index_walk.specs.Records.{index_of}

-- its records are the pages where an audio packet completes, by the marks of the stream
abbrev pub RecordsAreMarks : Type 0
RecordsAreMarks =
    (R : Readings) (S : List Bytes) → granules_of (index_of S) ≡ map (λ (m : Mark). m.granule) (marks R S)

-- it is never refused by 26
abbrev pub NeverFalls : Type 0
NeverFalls =
    (R : Readings) (S : List Bytes) (pages packets : ℕ) → judge_pages R S ≡ whole pages packets
    → first_fall (granules_of (index_of S)) ≡ none

-- ---- seeking and joining part way work together

-- M feeds the pages of the buffer b from a place on, at the marks, to a reader opened with the stream's header record; the
-- others are refused. The feedings F are those of the whole stream to a reader just started.
pub record OpenedFrom (R : Readings) (b : Bytes) (place : ℕ) (F : List Feeding) (M : List Marked) : Type 0 where
  pub handed : HandedOn R (opened_in R F) [] (all_of M)
  pub room : RoomAtMarks M
  pub pages : marked M ≡ pages_of (drop place b)
  pub others : OthersRefused R (opened_in R F) M

-- the place is that of the jth audio page, and what is told there is what the first reader listed, as demand 3 has it
pub record ListsFrom (R : Readings) (b : Bytes) (place : ℕ) (F : List Feeding) (M : List Marked) : Type 0 where
  pub j : ℕ
  pub there : pages_of (drop place b) ≡ bytes_of (drop j (audio_in R F))
  pub told : told_at_marks R (opened_in R F) M ≡ joined (began_before R F j) (drop j (audio_in R F))

abbrev pub SeekJoins : Type 0
SeekJoins =
    (crc : Bytes → ℕ) (b : Bytes) (pages packets target i probes : ℕ) (F : List Feeding) (M : List Marked)
    → judge_buffer (readings crc) b ≡ whole pages packets → Feeds (readings crc) (pages_of b) F
    → seek_of (index_of (pages_of b)) target ≡ at_record i probes
    → OpenedFrom (readings crc) b (get_or (index_of (pages_of b)) i no_record).place F M
    → ListsFrom (readings crc) b (get_or (index_of (pages_of b)) i no_record).place F M
