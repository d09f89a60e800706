-- Worked cases of seeking, as one test that is computed. Assumes nothing.
use mathlib.Core.Path.{◌≡◌, refl}
use mathlib.Core.List.{List, [], ◌∷◌, map}
use Prim.Native.Nat.{ℕ}
use Rattle.refusal.specs.declared.Refusal.TheVariants.{FallingGranule}
use Rattle.refusal.specs.Numbers.{number_of}
use Rattle.index_search.specs.Index.{fall_after, first_fall, up_to, probes, Answer, at_record, at_begin, refused, seek_in}

record Case : Type 0 where
  granules : List ℕ
  target : ℕ
  answer : Answer

abbrev case : List ℕ → ℕ → Answer → Case
case gs target answer = record { granules = gs; target = target; answer = answer }

-- two are equal
abbrev five : List ℕ
five = 5000 ∷ 6000 ∷ 7000 ∷ 7000 ∷ 8000 ∷ []

abbrev cases : List Case
cases =
    -- of equal granule positions the last
    case five 10840 (at_record 3 3)
    -- one sample less: the first probe is past the limit, the second is not, and no place remains
    ∷ case five 10839 (at_record 1 2)
    ∷ case five 20000 (at_record 4 2)
    -- none is early enough
    ∷ case five 8839 (at_begin 3)
    -- a target of exactly the pre-roll is probed for a granule position of 0
    ∷ case five 3840 (at_begin 3)
    ∷ case (0 ∷ 960 ∷ []) 3840 (at_record 0 2)
    -- and a target below it is not
    ∷ case (0 ∷ 960 ∷ []) 3839 (at_begin 0)
    -- an empty index
    ∷ case [] 3840 (at_begin 0)
    -- a fall comes before all else
    ∷ case (3 ∷ 3 ∷ 2 ∷ 1 ∷ []) 0 (refused (number_of FallingGranule) 2)
    ∷ case (3 ∷ 3 ∷ 2 ∷ 1 ∷ []) 10000 (refused (number_of FallingGranule) 2)
    -- the first of 1 to 8 records
    ∷ case (1 ∷ []) 3841 (at_record 0 1)
    ∷ case (1 ∷ 2 ∷ []) 3841 (at_record 0 2)
    ∷ case (1 ∷ 2 ∷ 3 ∷ []) 3841 (at_record 0 2)
    ∷ case (1 ∷ 2 ∷ 3 ∷ 4 ∷ []) 3841 (at_record 0 3)
    ∷ case (1 ∷ 2 ∷ 3 ∷ 4 ∷ 5 ∷ []) 3841 (at_record 0 3)
    ∷ case (1 ∷ 2 ∷ 3 ∷ 4 ∷ 5 ∷ 6 ∷ []) 3841 (at_record 0 3)
    ∷ case (1 ∷ 2 ∷ 3 ∷ 4 ∷ 5 ∷ 6 ∷ 7 ∷ []) 3841 (at_record 0 3)
    ∷ case (1 ∷ 2 ∷ 3 ∷ 4 ∷ 5 ∷ 6 ∷ 7 ∷ 8 ∷ []) 3841 (at_record 0 4)
    ∷ []

cases_hold : map (λ (c : Case). seek_in c.granules c.target) cases ≡ map (λ (c : Case). c.answer) cases
unfolding seek_in first_fall fall_after up_to probes
cases_hold = refl
