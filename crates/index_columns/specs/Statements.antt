-- What is proved of an index in three lists: it stands for a list of records, and each call gives the same on either.
-- Assumes nothing.
use Rattle.std.specs.Prelude.{ℕ, ◌≡◌, List, length, get_or, set}
use Rattle.refusal.specs.Told.{gives}
use Rattle.index_search.specs.declared.IndexRecord.{IndexRecord}
use Rattle.index_search.specs.Index.{Index, no_record, granules_of, first_fall, seek_of}
use Rattle.index_columns.specs.Columns.{rows_of, record_from, seek_columns, SameIndex}

-- ---- records and columns stand for the same index

-- the lists of an index have equal lengths, and give back its records
pub record Columned (ix : Index) (gs ps ss : List ℕ) : Type 0 where
  pub rows : rows_of gs ps ss ≡ ix
  pub places : length gs ≡ length ps
  pub sequences : length gs ≡ length ss

abbrev pub Layouts : Type 0
Layouts = (ix : Index) (gs ps ss : List ℕ) → SameIndex ix gs ps ss → Columned ix gs ps ss

-- lists of equal lengths are those of an index
abbrev pub LayoutsBack : Type 0
LayoutsBack =
    (gs ps ss : List ℕ) → length gs ≡ length ps → length gs ≡ length ss → SameIndex (rows_of gs ps ss) gs ps ss

-- ---- each call gives the same on either

pub record Alike (ix : Index) (gs ps ss : List ℕ) : Type 0 where
  pub read : (i : ℕ) → record_from gs ps ss i ≡ get_or ix i no_record
  pub stored : (i : ℕ) (r : IndexRecord)
      → SameIndex (set ix i r) (set gs i r.granule) (set ps i r.place) (set ss i r.sequence)
  pub fall : first_fall gs ≡ first_fall (granules_of ix)
  -- the answer has the number of probes
  pub sought : (target : ℕ) → seek_columns gs ps ss target ≡ gives (seek_of ix target)

abbrev pub SameAnswers : Type 0
SameAnswers = (ix : Index) (gs ps ss : List ℕ) → SameIndex ix gs ps ss → Alike ix gs ps ss
