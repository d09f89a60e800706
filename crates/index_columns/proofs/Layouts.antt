-- Records and columns stand for the same index. Assumes nothing.
use mathlib.Core.Path.{◌≡◌, refl, sym, ap, ◌∙◌}
use mathlib.Core.Bool.{true}
use mathlib.Core.List.{List, [], ◌∷◌}
use Prim.Native.Nat.{ℕ}
use native.Mathlib.Omega.{arith}
use borrow.Author.Tests.{eq-eqb}
use lib.ListN.{length, length-map}
use Rattle.index_search.specs.declared.IndexRecord.{IndexRecord}
use Rattle.index_search.specs.Index.{Index, granules_of}
use Rattle.index_columns.specs.Columns.{rows_of, are_equal, places_of, sequences_of, SameIndex}
use Rattle.index_columns.specs.Statements.{Layouts, LayoutsBack}

rows_all : (ix : Index) → rows_of (granules_of ix) (places_of ix) (sequences_of ix) ≡ ix
unfolding rows_of
rows_all [] = refl
rows_all (r ∷ ix) = ap (λ (l : Index). r ∷ l) (rows_all ix)

pub layouts : Layouts
layouts ix gs ps ss s =
    rw (s.granules, s.places, s.sequences)
    (record {
      rows = rows_all ix;
      places = length-map ix (λ (r : IndexRecord). r.granule) ∙ sym (length-map ix (λ (r : IndexRecord). r.place));
      sequences = length-map ix (λ (r : IndexRecord). r.granule) ∙ sym (length-map ix (λ (r : IndexRecord). r.sequence));
    })

pub are_equal_lem : {ix : Index} {gs ps ss : List ℕ} → SameIndex ix gs ps ss → are_equal gs ps ss ≡ true
are_equal_lem {ix} {gs} {ps} {ss} s =
    let c = layouts ix gs ps ss s in
    rw (eq-eqb (length gs) (length ps) c.places, eq-eqb (length gs) (length ss) c.sequences)

pub layouts_back : LayoutsBack
unfolding rows_of
layouts_back [] [] [] p q = record { granules = refl; places = refl; sequences = refl }
layouts_back [] [] (s ∷ ss) p q = absurd (omega arith)
layouts_back [] (x ∷ ps) ss p q = absurd (omega arith)
layouts_back (g ∷ gs) [] ss p q = absurd (omega arith)
layouts_back (g ∷ gs) (x ∷ ps) [] p q = absurd (omega arith)
layouts_back (g ∷ gs) (x ∷ ps) (s ∷ ss) p q =
    let rest : SameIndex (rows_of gs ps ss) gs ps ss = layouts_back gs ps ss (omega arith) (omega arith) in
    record {
      granules = ap (λ (l : List ℕ). g ∷ l) rest.granules;
      places = ap (λ (l : List ℕ). x ∷ l) rest.places;
      sequences = ap (λ (l : List ℕ). s ∷ l) rest.sequences;
    }
