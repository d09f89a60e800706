-- The first fall is where a granule position is below the one before it, and there is none before it. Assumes nothing.
use mathlib.Core.Path.{◌≡◌, refl, ap, subst, ◌∙◌}
use mathlib.Core.Bool.{Bool, true, false}
use mathlib.Core.List.{List, [], ◌∷◌}
use mathlib.Core.Option.{Option, none, some}
use Prim.Native.Nat.{ℕ, zero, suc, ◌+◌, ◌-◌, ◌<◌, ◌≤◌}
use native.Mathlib.Omega.{arith}
use borrow.Author.Tests.{ltb-true, ltb-false}
use lib.Dec.{ltb}
use lib.ListN.{length, get_or}
use Rattle.octets.specs.Pick.{pick}
use Rattle.index_search.specs.Index.{fall_after, first_fall}
use Rattle.index_search.specs.Statements.{FallsAt, FirstFallIs, NoFallIs}
use Rattle.index_search.proofs.UpTo.{no_fall}

-- the number of an answer, 0 for none
abbrev number_in : Option ℕ → ℕ
number_in none = 0
number_in (some n) = n

not_some : {A : Type 0} (n : ℕ) → none ≡ some n → A
not_some n e = let z : ◌≡◌ {A = ℕ} 0 1 = cc in absurd (omega arith)

-- ---- a fall is at the place of the list's first, or behind it

from-by : (falls : Bool) (place n : ℕ) (rest : Option ℕ) → (rest ≡ some n → place + 1 ≤ n) → pick falls (some place) rest ≡ some n
    → place ≤ n
from-by true place n rest behind e = let same : place ≡ n = ap number_in e in omega arith
from-by false place n rest behind e = let h : place + 1 ≤ n = behind e in omega arith

from : (place before : ℕ) (gs : List ℕ) (n : ℕ) → fall_after place before gs ≡ some n → place ≤ n
unfolding fall_after
from place before [] n e = not_some n e
from place before (g ∷ gs) n e = from-by (ltb g before) place n (fall_after (place + 1) g gs) (from (place + 1) g gs n) e

-- ---- the first fall, of a list with the granule position before it in front

record FallsBehind (gs : List ℕ) (i : ℕ) : Type 0 where
  pub there : suc i < length gs
  pub falls : get_or gs (suc i) 0 < get_or gs i 0
  pub first : (j : ℕ) → j < i → get_or gs j 0 ≤ get_or gs (suc j) 0

here : (place before g : ℕ) (gs : List ℕ) (i : ℕ) → ltb g before ≡ true → some place ≡ some (place + i)
    → FallsBehind (before ∷ g ∷ gs) i
here place before g gs zero below e =
    record { there = omega arith; falls = ltb-true g before below; first = λ j h. absurd (let z : j < 0 = h in omega arith) }
here place before g gs (suc i) below e = absurd (let same : place ≡ place + suc i = ap number_in e in omega arith)

rises : (before g : ℕ) (gs : List ℕ) (i : ℕ) → before ≤ g → FallsBehind (g ∷ gs) i
    → (j : ℕ) → j < suc i → get_or (before ∷ g ∷ gs) j 0 ≤ get_or (before ∷ g ∷ gs) (suc j) 0
rises before g gs i up at zero h = up
rises before g gs i up at (suc j) h = at.first j (omega arith)

behind : (before g : ℕ) (gs : List ℕ) (i : ℕ) → before ≤ g → FallsBehind (g ∷ gs) i → FallsBehind (before ∷ g ∷ gs) (suc i)
behind before g gs i up at =
    record { there = (let h : suc i < length (g ∷ gs) = at.there in omega arith); falls = at.falls; first = rises before g gs i up at }

falls-by : (falls : Bool) (place before g : ℕ) (gs : List ℕ) (i : ℕ)
    → ((i : ℕ) → fall_after (place + 1) g gs ≡ some (place + 1 + i) → FallsBehind (g ∷ gs) i)
    → ltb g before ≡ falls → pick falls (some place) (fall_after (place + 1) g gs) ≡ some (place + i) → FallsBehind (before ∷ g ∷ gs) i
falls-by true place before g gs i rest t e = here place before g gs i t e
falls-by false place before g gs zero rest t e =
    absurd (let h : place + 1 ≤ place + zero = from (place + 1) g gs (place + zero) e in omega arith)
falls-by false place before g gs (suc i) rest t e =
    let next : place + suc i ≡ place + 1 + i = omega arith in
    behind before g gs i (ltb-false g before t) (rest i (e ∙ ap some next))

falls_at : (place before : ℕ) (gs : List ℕ) (i : ℕ) → fall_after place before gs ≡ some (place + i) → FallsBehind (before ∷ gs) i
unfolding fall_after
falls_at place before [] i e = not_some (place + i) e
falls_at place before (g ∷ gs) i e = falls-by (ltb g before) place before g gs i (falls_at (place + 1) g gs) refl e

first_by : (gs : List ℕ) (i : ℕ) → FallsBehind (0 ∷ gs) i → FallsAt gs i
first_by gs zero at = absurd (let h : get_or gs 0 0 < 0 = at.falls in omega arith)
first_by gs (suc i) at =
    let before : i ≡ suc i - 1 = omega arith in
    record {
      there = (let h : suc (suc i) < suc (length gs) = at.there in omega arith);
      after = omega arith;
      falls = subst (λ (k : ℕ). get_or gs (suc i) 0 < get_or gs k 0) before at.falls;
      first = λ j h. at.first (suc j) h;
    }

pub first_fall-is : FirstFallIs
unfolding first_fall
first_fall-is gs i e =
    let start : i ≡ 0 + i = omega arith in
    first_by gs i (falls_at 0 0 gs i (e ∙ ap some start))

-- ---- no fall

goes-up : (place before : ℕ) (gs : List ℕ) → fall_after place before gs ≡ none
    → (j : ℕ) → suc j < length (before ∷ gs) → get_or (before ∷ gs) j 0 ≤ get_or (before ∷ gs) (suc j) 0
goes-up place before [] e j h = absurd (let z : suc j < 1 = h in omega arith)
goes-up place before (g ∷ gs) e zero h = (no_fall place before g gs e).0
goes-up place before (g ∷ gs) e (suc j) h =
    goes-up (place + 1) g gs (no_fall place before g gs e).1 j (let l : suc (suc j) < suc (suc (length gs)) = h in omega arith)

pub no_fall_is : NoFallIs
unfolding first_fall
no_fall_is gs e j h = goes-up 0 0 gs e (suc j) (omega arith)
