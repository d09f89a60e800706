-- How many records there are up to the last one at or before the limit, in a list with no fall. Assumes nothing.
use mathlib.Core.Path.{◌≡◌, refl}
use mathlib.Core.Bool.{Bool, true, false}
use mathlib.Core.List.{List, [], ◌∷◌}
use mathlib.Core.Option.{none, some}
use Prim.Native.Nat.{ℕ, zero, suc, ◌+◌, ◌<◌, ◌≤◌}
use native.Mathlib.Omega.{arith}
use borrow.Author.Tests.{lt-ltb, le-leb, ltb-true, ltb-false, leb-true}
use lib.Dec.{ltb, leb}
use lib.ListN.{length, get_or}
use Rattle.octets.specs.Pick.{pick}
use Rattle.index_search.specs.Index.{fall_after, up_to}

-- ---- a list with no fall

no_fall_by : (falls : Bool) (place before g : ℕ) (gs : List ℕ) → ltb g before ≡ falls
    → pick falls (some place) (fall_after (place + 1) g gs) ≡ none → (before ≤ g) × (fall_after (place + 1) g gs ≡ none)
no_fall_by true place before g gs t e = let z : ◌≡◌ {A = ℕ} 0 1 = cc in absurd (omega arith)
no_fall_by false place before g gs t e = (ltb-false g before t, e)

pub no_fall : (place before g : ℕ) (gs : List ℕ) → fall_after place before (g ∷ gs) ≡ none
    → (before ≤ g) × (fall_after (place + 1) g gs ≡ none)
unfolding fall_after
no_fall place before g gs e = no_fall_by (ltb g before) place before g gs refl e

not-below : (place before : ℕ) (gs : List ℕ) → fall_after place before gs ≡ none → 0 < length gs → before ≤ get_or gs 0 0
not-below place before [] e has = omega arith
not-below place before (g ∷ gs) e has = (no_fall place before g gs e).0

-- ---- each at or before the limit is counted

counted-by : (later early : Bool) (u : ℕ) → ltb 0 u ≡ later → early ≡ true → 0 < pick later (suc u) (pick early 1 0)
counted-by true early u e d = omega arith
counted-by false true u e d = omega arith
counted-by false false u e d = let z : ◌≡◌ {A = ℕ} 0 1 = cc in absurd (omega arith)

pub counted : (limit : ℕ) (gs : List ℕ) (i : ℕ) → i < length gs → get_or gs i 0 ≤ limit → i < up_to limit gs
unfolding up_to
counted limit [] i h early = omega arith
counted limit (g ∷ gs) zero h early =
    counted-by (ltb 0 (up_to limit gs)) (leb g limit) (up_to limit gs) refl (le-leb g limit early)
counted limit (g ∷ gs) (suc i) h early =
    let below : i < up_to limit gs = counted limit gs i (omega arith) early in
    rw (lt-ltb 0 (up_to limit gs) (omega arith)) (omega arith)

-- ---- no more are counted than there are

within_by : (later early : Bool) (u n : ℕ) → u ≤ n → pick later (suc u) (pick early 1 0) ≤ suc n
within_by true early u n h = omega arith
within_by false true u n h = omega arith
within_by false false u n h = omega arith

pub within : (limit : ℕ) (gs : List ℕ) → up_to limit gs ≤ length gs
unfolding up_to
within limit [] = omega arith
within limit (g ∷ gs) = within_by (ltb 0 (up_to limit gs)) (leb g limit) (up_to limit gs) (length gs) (within limit gs)

-- ---- each that is counted is at or before the limit

early-first : (later early : Bool) (limit g h u : ℕ) → ltb 0 u ≡ later → leb g limit ≡ early → (0 < u → g ≤ h)
    → (0 < u → h ≤ limit) → 0 < pick later (suc u) (pick early 1 0) → g ≤ limit
early-first true early limit g h u e d p q z =
    let has : 0 < u = ltb-true 0 u e in let a : g ≤ h = p has in let b : h ≤ limit = q has in omega arith
early-first false true limit g h u e d p q z = leb-true g limit d
early-first false false limit g h u e d p q z = omega arith

counted_next : (later early : Bool) (u i : ℕ) → suc i < pick later (suc u) (pick early 1 0) → i < u
counted_next true early u i h = omega arith
counted_next false true u i h = omega arith
counted_next false false u i h = omega arith

pub early : (place before limit : ℕ) (gs : List ℕ) → fall_after place before gs ≡ none
    → (i : ℕ) → i < up_to limit gs → get_or gs i 0 ≤ limit
unfolding up_to
early place before limit [] e i h = omega arith
early place before limit (g ∷ gs) e zero h =
    let rest : fall_after (place + 1) g gs ≡ none = (no_fall place before g gs e).1 in
    let fits : up_to limit gs ≤ length gs = within limit gs in
    early-first (ltb 0 (up_to limit gs)) (leb g limit) limit g (get_or gs 0 0) (up_to limit gs) refl refl
    (λ (has : 0 < up_to limit gs). not-below (place + 1) g gs rest (omega arith))
    (λ has. early (place + 1) g limit gs rest 0 has) h
early place before limit (g ∷ gs) e (suc i) h =
    early (place + 1) g limit gs (no_fall place before g gs e).1 i
    (counted_next (ltb 0 (up_to limit gs)) (leb g limit) (up_to limit gs) i h)
