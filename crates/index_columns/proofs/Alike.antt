-- Each call gives the same on records and on columns. Assumes nothing.
use mathlib.Core.Path.{◌≡◌, refl, sym, ap, ◌∙◌}
use mathlib.Core.List.{List, [], ◌∷◌, map}
use Prim.Native.Nat.{ℕ, zero, suc}
use lib.ListN.{get_or, set, get_or-map}
use Rattle.refusal.specs.Told.{gives}
use Rattle.index_search.specs.declared.IndexRecord.{IndexRecord}
use Rattle.index_search.specs.Index.{Index, no_record, seek_in, seek_of}
use Rattle.index_columns.specs.Columns.{record_from, seek_columns, SameIndex}
use Rattle.index_columns.specs.Statements.{SameAnswers}
use Rattle.index_columns.proofs.Layouts.{are_equal_lem}
use Rattle.index_columns.proofs.Seeking.{equal}

set-map : (f : IndexRecord → ℕ) (ix : Index) (i : ℕ) (r : IndexRecord) → set (map f ix) i (f r) ≡ map f (set ix i r)
set-map f [] i r = refl
set-map f (x ∷ ix) zero r = refl
set-map f (x ∷ ix) (suc i) r = ap (λ (l : List ℕ). f x ∷ l) (set-map f ix i r)

fields : (g p s : ℕ) (r : IndexRecord) → g ≡ r.granule → p ≡ r.place → s ≡ r.sequence
    → ◌≡◌ {A = IndexRecord} (record { granule = g; place = p; sequence = s }) r
fields g p s r a b c = rw (a, b, c)

module _ (ix : Index) (gs ps ss : List ℕ) (s : SameIndex ix gs ps ss) where
  read : (i : ℕ) → record_from gs ps ss i ≡ get_or ix i no_record
  read i =
      fields (get_or gs i 0) (get_or ps i 0) (get_or ss i 0) (get_or ix i no_record)
      (rw s.granules (get_or-map (λ (r : IndexRecord). r.granule) ix i no_record))
      (rw s.places (get_or-map (λ (r : IndexRecord). r.place) ix i no_record))
      (rw s.sequences (get_or-map (λ (r : IndexRecord). r.sequence) ix i no_record))

  stored : (i : ℕ) (r : IndexRecord)
      → SameIndex (set ix i r) (set gs i r.granule) (set ps i r.place) (set ss i r.sequence)
  stored i r =
      record {
        granules = rw s.granules (set-map (λ (r : IndexRecord). r.granule) ix i r);
        places = rw s.places (set-map (λ (r : IndexRecord). r.place) ix i r);
        sequences = rw s.sequences (set-map (λ (r : IndexRecord). r.sequence) ix i r);
      }

  sought : (target : ℕ) → seek_columns gs ps ss target ≡ gives (seek_of ix target)
  sought target =
      sym (equal gs ps ss target (are_equal_lem s)) ∙ ap (λ (l : List ℕ). gives (seek_in l target)) s.granules

pub same-answers : SameAnswers
same-answers ix gs ps ss s =
    record { read = read ix gs ps ss s; stored = stored ix gs ps ss s; fall = rw s.granules; sought = sought ix gs ps ss s }
