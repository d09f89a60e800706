-- Each call gives the same on records and on columns, building included. Assumes nothing.
use Prim.Native.Nat.{ℕ, zero, suc}
use mathlib.Core.Path.{◌≡◌, refl, sym, ap, ◌∙◌}
use mathlib.Core.List.{List, [], ◌∷◌, map, ◌++◌, map-append}
use lib.ListN.{length, length-map, drop}
use Rattle.octets.specs.Octets.{Bytes}
use Rattle.refusal.specs.Told.{Told, gives, refuses}
use Rattle.stream.specs.Readings.{Readings}
use Rattle.recording.specs.Pages.{pages_of}
use Rattle.index_search.specs.declared.IndexRecord.{IndexRecord}
use Rattle.index_search.specs.Index.{Index}
use Rattle.index_columns.specs.Columns.{SameIndex}
use Rattle.index_columns.proofs.Layouts.{are_equal_lem}
use Rattle.index_columns.proofs.Alike.{same-answers}
use Rattle.index_walk.specs.Records.{index_of}
use Rattle.index_builder.specs.Building.{build, stored_by}
use Rattle.index_columns_builder.specs.Building.{build_columns, granule_in, place_in, sequence_in, field_stored}
use Rattle.index_columns_builder.specs.Statements.{SameInAll}
use Rattle.index_columns_builder.proofs.Building.{equal}

drop-map : (field : IndexRecord → ℕ) (n : ℕ) (ix : Index) → drop n (map field ix) ≡ map field (drop n ix)
drop-map field zero ix = refl
drop-map field (suc n) [] = refl
drop-map field (suc n) (r ∷ ix) = drop-map field n ix

-- a list that is a field of the records stays one
stays : (field : IndexRecord → ℕ) (t : Told ℕ) (new old : Index) (l : List ℕ) → l ≡ map field old
    → field_stored field t new l ≡ map field (stored_by t new old)
stays field (gives n) new old l e =
    ap (λ (k : List ℕ). map field new ++ k) (ap (drop n) e ∙ drop-map field n old) ∙ sym (map-append field new (drop n old))
stays field (refuses n) new old l e = e

module _ (R : Readings) (b : Bytes) (ix : Index) (gs ps ss : List ℕ) (s : SameIndex ix gs ps ss) where
  told : build_columns R b gs ps ss ≡ build R b (length ix)
  told =
      sym (equal R b gs ps ss (are_equal_lem s) refl) ∙ ap (build R b) (ap length s.granules ∙ length-map ix granule_in)

  built : SameIndex (stored_by (build R b (length ix)) (index_of (pages_of b)) ix)
      (field_stored granule_in (build_columns R b gs ps ss) (index_of (pages_of b)) gs)
      (field_stored place_in (build_columns R b gs ps ss) (index_of (pages_of b)) ps)
      (field_stored sequence_in (build_columns R b gs ps ss) (index_of (pages_of b)) ss)
  built =
      let t = build R b (length ix) in
      let new = index_of (pages_of b) in
      rw told
      (record {
        granules = stays granule_in t new ix gs s.granules;
        places = stays place_in t new ix ps s.places;
        sequences = stays sequence_in t new ix ss s.sequences;
      })

pub same_in_all : SameInAll
same_in_all R b ix gs ps ss s =
    record { calls = same-answers ix gs ps ss s; told = told R b ix gs ps ss s; built = built R b ix gs ps ss s }
