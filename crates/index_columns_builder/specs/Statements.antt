-- What is proved of building into three lists, in addition to the contract. Assumes nothing.
use Rattle.std.specs.Prelude.{ℕ, ◌≡◌, List, length}
use Rattle.octets.specs.Octets.{Bytes}
use Rattle.stream.specs.Readings.{Readings}
use Rattle.recording.specs.Pages.{pages_of}
use Rattle.index_search.specs.Index.{Index}
use Rattle.index_columns.specs.Columns.{SameIndex}
use Rattle.index_columns.specs.Statements.{Alike}
use Rattle.index_walk.specs.Records.{index_of}
use Rattle.index_builder.specs.Building.{build, stored_by}
use Rattle.index_columns_builder.specs.Building.{build_columns, granule_in, place_in, sequence_in, field_stored}

-- each call gives the same on records and on columns, building included: what it tells, and the index that it leaves
pub record AlikeInAll (R : Readings) (b : Bytes) (ix : Index) (gs ps ss : List ℕ) : Type 0 where
  pub calls : Alike ix gs ps ss
  pub told : build_columns R b gs ps ss ≡ build R b (length ix)
  pub built : SameIndex (stored_by (build R b (length ix)) (index_of (pages_of b)) ix)
      (field_stored granule_in (build_columns R b gs ps ss) (index_of (pages_of b)) gs)
      (field_stored place_in (build_columns R b gs ps ss) (index_of (pages_of b)) ps)
      (field_stored sequence_in (build_columns R b gs ps ss) (index_of (pages_of b)) ss)

abbrev pub SameInAll : Type 0
SameInAll =
    (R : Readings) (b : Bytes) (ix : Index) (gs ps ss : List ℕ) → SameIndex ix gs ps ss → AlikeInAll R b ix gs ps ss
