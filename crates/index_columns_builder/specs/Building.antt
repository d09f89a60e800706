-- Building the index of a stream in a buffer into three lists (RULES.md, 15). Assumes nothing.
use Rattle.refusal.specs.declared.Refusal.{Refusal}
use Rattle.std.specs.Prelude.{⊤, Result, Ok, Err, ℕ, ◌≡◌, List, map, ◌++◌, length, drop}
use Rattle.std.proofs.lemmas.List.Edits.{sets}
use Rattle.octets.specs.Pick.{pick}
use Rattle.octets.specs.Octets.{Bytes}
use Rattle.refusal.specs.declared.Refusal.TheVariants.{ShortOutput}
use Rattle.refusal.specs.Numbers.{number_of}
use Rattle.refusal.specs.Told.{Told, gives, refuses}
use Rattle.stream.specs.Readings.{Readings}
use Rattle.recording.specs.Pages.{pages_of}
use Rattle.index_search.specs.declared.IndexRecord.{IndexRecord}
use Rattle.index_search.specs.Index.{Index}
use Rattle.index_columns.specs.Columns.{are_equal, Slice}
use Rattle.index_walk.specs.Records.{index_of}
use Rattle.index_builder.specs.Building.{build}

-- 22 where the lists have different lengths, before all else; then what building into as many records tells
unfoldable pub build_columns : Readings → Bytes → List ℕ → List ℕ → List ℕ → Told ℕ
build_columns R b gs ps ss = pick (are_equal gs ps ss) (build R b (length gs)) (refuses (number_of ShortOutput))

-- the fields of a record
abbrev pub granule_in : IndexRecord → ℕ
granule_in r = r.granule

abbrev pub place_in : IndexRecord → ℕ
place_in r = r.place

abbrev pub sequence_in : IndexRecord → ℕ
sequence_in r = r.sequence

-- a list at the end: the records' field in its first places, or all as it was
abbrev pub field_stored : (IndexRecord → ℕ) → Told ℕ → Index → List ℕ → List ℕ
field_stored field (gives n) ix old = map field ix ++ drop n old
field_stored field (refuses n) ix old = old

-- the contract of building: b is the stream, t is told, and the lists are lent
pub record BuildsColumns (R : Readings) (b : Bytes) (t : Told ℕ) (granules places sequences : Slice) : Type 0 where
  pub told : t ≡ build_columns R b granules.entry.now places.entry.now sequences.entry.now
  pub granule : granules.exit.now ≡ field_stored granule_in t (index_of (pages_of b)) granules.entry.now
  pub place : places.exit.now ≡ field_stored place_in t (index_of (pages_of b)) places.entry.now
  pub sequence : sequences.exit.now ≡ field_stored sequence_in t (index_of (pages_of b)) sequences.entry.now

-- ---- whether the records of a stream fit

-- what building tells of n records
abbrev pub told_room : Result ⊤ Refusal → ℕ → Told ℕ
told_room (Ok _) n = gives n
told_room (Err why) n = refuses (number_of why)

-- ---- the records of a stream stored one after the other

-- the field of each, as far as the list goes
unfoldable pub field_filled : (IndexRecord → ℕ) → Bytes → List ℕ → List ℕ
field_filled field b l = sets l 0 (map field (index_of (pages_of b)))

-- b is the stream, and n records are told
pub record FillsColumns (b : Bytes) (n : ℕ) (granules places sequences : Slice) : Type 0 where
  pub count : n ≡ length (index_of (pages_of b))
  pub granule : granules.exit.now ≡ field_filled granule_in b granules.entry.now
  pub place : places.exit.now ≡ field_filled place_in b places.entry.now
  pub sequence : sequences.exit.now ≡ field_filled sequence_in b sequences.entry.now
