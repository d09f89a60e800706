-- What building into three lists tells, and the lists that it leaves. Assumes nothing.
use Rattle.std.specs.Prelude.{⊤, Result, Ok, Err}
use Prim.Native.Nat.{ℕ, ◌+◌, ◌≤◌}
use mathlib.Core.Path.{◌≡◌, refl, sym, ap, ◌∙◌}
use mathlib.Core.Bool.{Bool, true, false}
use mathlib.Core.List.{List, map, ◌++◌}
use native.Mathlib.Omega.{arith}
use borrow.Author.Tests.{eqb-true, ltb-false}
use lib.Dec.{eqb, ltb}
use lib.ListN.{length, length-map, drop}
use lib.Seq.{sets-eq}
use Rattle.octets.specs.Pick.{pick}
use Rattle.octets.specs.Octets.{Bytes}
use Rattle.octets.proofs.Tests.{equal-and}
use Rattle.refusal.specs.declared.Refusal.{Refusal}
use Rattle.refusal.specs.Numbers.{number_of}
use Rattle.refusal.specs.Told.{Told, gives, refuses}
use Rattle.stream.specs.Readings.{Readings}
use Rattle.recording.specs.Pages.{pages_of}
use Rattle.recording.specs.Judging.{Judgement, whole, refused, judge_buffer}
use Rattle.index_search.specs.declared.IndexRecord.{IndexRecord}
use Rattle.index_search.specs.Index.{Index}
use Rattle.index_columns.specs.Columns.{are_equal}
use Rattle.index_walk.specs.Records.{index_of}
use Rattle.index_builder.specs.Building.{built_by, build}
use Rattle.index_columns_builder.specs.Building.{told_room, build_columns, field_stored, field_filled}
use Rattle.index_columns_builder.specs.Building.{granule_in, place_in, sequence_in}

-- ---- records that were told fit the lists

-- n records are told, and there are places for them
pub record Within (ix : Index) (n room : ℕ) : Type 0 where
  pub all : n ≡ length ix
  pub within : length ix ≤ room

not-given : {A : Type 0} (n m : ℕ) → gives n ≡ refuses m → A
not-given n m e = let z : ◌≡◌ {A = ℕ} 0 1 = cc in absurd (omega arith)

fits_by : (j : Judgement) (ix : Index) (n room : ℕ) → gives n ≡ built_by j ix room → Within ix n room
fits_by (refused m page) ix n room e = not-given n m e
fits_by (whole pages packets) ix n room e = by (ltb room (length ix)) refl e
  where
    by : (short : Bool) → ltb room (length ix) ≡ short → gives n ≡ pick short (refuses 22) (gives (length ix)) → Within ix n room
    by true t h = not-given n 22 h
    by false t h = record { all = cc; within = ltb-false room (length ix) t }

fits : (R : Readings) (b : Bytes) (n room : ℕ) → gives n ≡ build R b room → Within (index_of (pages_of b)) n room
unfolding build
fits R b n room e = fits_by (judge_buffer R b) (index_of (pages_of b)) n room e

-- what building tells, by whether the records fit
module _ (b : Bytes) (x : Result ⊤ Refusal) {t : Told ℕ} (h : told_room x (length (index_of (pages_of b))) ≡ t) where
  pub told-count : {n : ℕ} → x ≡ Ok tt → n ≡ length (index_of (pages_of b)) → gives n ≡ t
  told-count e same = ap gives same ∙ sym (ap (λ (y : Result ⊤ Refusal). told_room y (length (index_of (pages_of b)))) e) ∙ h

  pub told-refusal : {why : Refusal} → x ≡ Err why → refuses (number_of why) ≡ t
  told-refusal e = sym (ap (λ (y : Result ⊤ Refusal). told_room y (length (index_of (pages_of b)))) e) ∙ h

-- ---- each list at the end

module _ (field : IndexRecord → ℕ) (b : Bytes) (l : List ℕ) (n : ℕ) where
  abbrev numbers : List ℕ
  numbers = map field (index_of (pages_of b))

  stored : Within (index_of (pages_of b)) n (length l) → field_filled field b l ≡ field_stored field (gives n) (index_of (pages_of b)) l
  unfolding field_filled
  stored g =
      let many : length numbers ≡ length (index_of (pages_of b)) = length-map (index_of (pages_of b)) field in
      let to : 0 + length numbers ≡ n = omega (arith, many, g.all) in
      sets-eq numbers l 0 (omega (arith, many, g.within)) ∙ ap (λ (k : ℕ). numbers ++ drop k l) to

-- ---- the contract

module _ (R : Readings) (b : Bytes) (gs ps ss : List ℕ) where
  pub unequal : are_equal gs ps ss ≡ false → refuses 22 ≡ build_columns R b gs ps ss
  unfolding build_columns
  unequal e = rw e

  pub equal : {t : Told ℕ} → are_equal gs ps ss ≡ true → t ≡ build R b (length gs) → t ≡ build_columns R b gs ps ss
  unfolding build_columns
  equal e h = rw e h

  -- the lists once n records were told
  module _ {n : ℕ} (e : are_equal gs ps ss ≡ true) (t : gives n ≡ build R b (length gs)) where
    fits_in : (l : List ℕ) → length gs ≡ length l → Within (index_of (pages_of b)) n (length l)
    fits_in l same = fits R b n (length l) (t ∙ ap (build R b) same)

    pub granules-stored : field_filled granule_in b gs ≡ field_stored granule_in (gives n) (index_of (pages_of b)) gs
    granules-stored = stored granule_in b gs n (fits_in gs refl)

    pub places-stored : field_filled place_in b ps ≡ field_stored place_in (gives n) (index_of (pages_of b)) ps
    places-stored = stored place_in b ps n (fits_in ps (equal-and (length gs) (length ps) (eqb (length gs) (length ss)) e).0)

    pub sequences-stored : field_filled sequence_in b ss ≡ field_stored sequence_in (gives n) (index_of (pages_of b)) ss
    sequences-stored =
        let same = (equal-and (length gs) (length ps) (eqb (length gs) (length ss)) e).1 in
        stored sequence_in b ss n (fits_in ss (eqb-true (length gs) (length ss) same))
