-- An index as three lists: the granule positions, the places and the sequence numbers of its records (RULES.md, 15).
-- Assumes nothing.
use Rattle.std.specs.Prelude.{ℕ, ◌≡◌, Bool, not, ◌&&◌, List, [], ◌∷◌, map, eqb, length, get_or, set}
use Rattle.std.specs.Borrow.{MutBor}
use denote.Triple.Both.{Both}
use Rattle.refusal.specs.declared.Refusal.TheVariants.{ShortOutput}
use Rattle.refusal.specs.Checks.{Check, ◌when◌, first_of}
use Rattle.refusal.specs.Told.{Told, decided}
use Rattle.index_search.specs.declared.IndexRecord.{IndexRecord}
use Rattle.index_search.specs.Index.{Index, granules_of, Answer, seek_of}

-- the records that have their fields in the lists
unfoldable pub rows_of : List ℕ → List ℕ → List ℕ → Index
rows_of (g ∷ gs) (p ∷ ps) (s ∷ ss) = record { granule = g; place = p; sequence = s } ∷ rows_of gs ps ss
rows_of [] ps ss = []
rows_of (g ∷ gs) [] ss = []
rows_of (g ∷ gs) (p ∷ ps) [] = []

-- the lists have equal lengths
abbrev pub are_equal : List ℕ → List ℕ → List ℕ → Bool
are_equal gs ps ss = eqb (length gs) (length ps) && eqb (length gs) (length ss)

abbrev pub places_of : Index → List ℕ
places_of ix = map (λ (r : IndexRecord). r.place) ix

abbrev pub sequences_of : Index → List ℕ
sequences_of ix = map (λ (r : IndexRecord). r.sequence) ix

-- the three lists are the three fields of the records of an index
pub record SameIndex (ix : Index) (gs ps ss : List ℕ) : Type 0 where
  pub granules : gs ≡ granules_of ix
  pub places : ps ≡ places_of ix
  pub sequences : ss ≡ sequences_of ix

-- ---- reading and storing a record

-- what is read at place i, with 0 for a field where the field's list has no such place
abbrev pub record_from : List ℕ → List ℕ → List ℕ → ℕ → IndexRecord
record_from gs ps ss i = record { granule = get_or gs i 0; place = get_or ps i 0; sequence = get_or ss i 0 }

-- a slice that a function is lent, at entry and at exit
abbrev pub Slice : Type 0
Slice = Both (MutBor (List ℕ)) (MutBor (List ℕ))

-- the record r was stored at place i
pub record StoredAt (i : ℕ) (r : IndexRecord) (granules places sequences : Slice) : Type 0 where
  pub granule : granules.exit.now ≡ set granules.entry.now i r.granule
  pub place : places.exit.now ≡ set places.entry.now i r.place
  pub sequence : sequences.exit.now ≡ set sequences.entry.now i r.sequence

-- ---- seeking

abbrev pub seek_checks : List ℕ → List ℕ → List ℕ → List Check
seek_checks gs ps ss = ShortOutput when not (are_equal gs ps ss) ∷ []

unfoldable pub seek_columns : List ℕ → List ℕ → List ℕ → ℕ → Told Answer
seek_columns gs ps ss target = decided (first_of (seek_checks gs ps ss)) (seek_of (rows_of gs ps ss) target)
