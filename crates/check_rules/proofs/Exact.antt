-- Each finding is there exactly where its condition holds. Assumes nothing.
use Prim.Native.Nat.{ℕ, zero, suc, ◌+◌, ◌-◌, ◌≤◌, ◌<◌}
use mathlib.Core.Path.{◌≡◌, refl, sym, ap, ap₂, ◌∙◌}
use mathlib.Core.Bool.{Bool, true, false, ◌&&◌}
use mathlib.Core.List.{List, [], ◌∷◌, ◌++◌}
use native.Mathlib.Omega.{arith}
use borrow.Author.Tests.{eqb-true, eqb-false, eq-eqb, ne_eqb, leb-true, leb-false}
use lib.Dec.{eqb, leb}
use lib.ListN.{drop}
use Rattle.octets.specs.Pick.{pick}
use Rattle.octets.specs.Octets.{Bytes}
use Rattle.stream.specs.Readings.{Readings}
use Rattle.stream.specs.Stream.{Listing, listings}
use Rattle.check_rules.specs.Findings.{left_unfinished, has_no_end, is_overtrimmed, has_gain_tag, has_hole, Finding, finding_if, findings_on, findings_from, findings}
use Rattle.check_rules.specs.Statements.{times, condition_on, condition_in, Exact}

times-append : (x k : ℕ) (A B : List Finding) → times x k (A ++ B) ≡ times x k A + times x k B
unfolding times
times-append x k [] B = omega arith
times-append x k (a ∷ A) B =
    let n : ℕ = pick (eqb a.kind x && eqb a.page k) 1 0 in
    let z = times-append x k A B in
    omega (arith, z)

not_same : (j k : ℕ) → j ≤ k → (j ≡ k → ⊥) → suc j ≤ k
not_same j k h n = by (leb (suc j) k) refl
  where
    by : (t : Bool) → leb (suc j) k ≡ t → suc j ≤ k
    by true e = leb-true (suc j) k e
    by false e = absurd (n (let w = leb-false (suc j) k e in omega arith))

-- ---- on one page

-- a finding of the kind y on page k, if it holds
one : ℕ → ℕ → Bool → ℕ
one x y holds = pick (eqb y x) (pick holds 1 0) 0

times-here : (x k y : ℕ) (holds : Bool) → times x k (finding_if holds y k) ≡ one x y holds
unfolding times one
times-here x k y true = rw (eq-eqb k k refl) (by (eqb y x))
  where
    by : (t : Bool) → pick (t && true) 1 0 + 0 ≡ pick t 1 0
    by true = omega arith
    by false = omega arith
times-here x k y false = by (eqb y x)
  where
    by : (t : Bool) → ◌≡◌ {A = ℕ} 0 (pick t 0 0)
    by true = refl
    by false = refl

times_else : (x k y j : ℕ) (holds : Bool) → (j ≡ k → ⊥) → times x k (finding_if holds y j) ≡ 0
unfolding times
times_else x k y j true n = rw (ne_eqb j k n) (by (eqb y x))
  where
    by : (t : Bool) → pick (t && false) 1 0 + 0 ≡ 0
    by true = omega arith
    by false = omega arith
times_else x k y j false n = refl

-- at most one of five kinds is asked for
five : (x : ℕ) (a b c d e : Bool)
    → one x 1 a + (one x 2 b + (one x 3 c + (one x 4 d + one x 5 e)))
    ≡ pick (pick (eqb x 1) a (pick (eqb x 2) b (pick (eqb x 3) c (pick (eqb x 4) d (pick (eqb x 5) e false))))) 1 0
unfolding one
five x a b c d e = by1 (eqb x 1) refl
  where
    num : (t : Bool) → pick t 1 0 + (0 + (0 + (0 + 0))) ≡ pick t 1 0
    num t = omega arith

    flip : (n : ℕ) → eqb x n ≡ false → eqb n x ≡ false
    flip n q = ne_eqb n x (λ z. eqb-false x n q (sym z))

    by5 : (t : Bool) → eqb x 5 ≡ t → eqb x 1 ≡ false → eqb x 2 ≡ false → eqb x 3 ≡ false → eqb x 4 ≡ false
        → pick (eqb 1 x) (pick a 1 0) 0 + (pick (eqb 2 x) (pick b 1 0) 0 + (pick (eqb 3 x) (pick c 1 0) 0 + (pick (eqb 4 x) (pick d 1 0) 0 + pick (eqb 5 x) (pick e 1 0) 0)))
        ≡ pick (pick t e false) 1 0
    by5 true q p1 p2 p3 p4 = rw (flip 1 p1, flip 2 p2, flip 3 p3, flip 4 p4, eq-eqb 5 x (sym (eqb-true x 5 q))) (omega arith)
    by5 false q p1 p2 p3 p4 = rw (flip 1 p1, flip 2 p2, flip 3 p3, flip 4 p4, flip 5 q) (omega arith)

    by4 : (t : Bool) → eqb x 4 ≡ t → eqb x 1 ≡ false → eqb x 2 ≡ false → eqb x 3 ≡ false
        → pick (eqb 1 x) (pick a 1 0) 0 + (pick (eqb 2 x) (pick b 1 0) 0 + (pick (eqb 3 x) (pick c 1 0) 0 + (pick (eqb 4 x) (pick d 1 0) 0 + pick (eqb 5 x) (pick e 1 0) 0)))
        ≡ pick (pick t d (pick (eqb x 5) e false)) 1 0
    by4 true q p1 p2 p3 = rw (eqb-true x 4 q) (omega arith)
    by4 false q p1 p2 p3 = by5 (eqb x 5) refl p1 p2 p3 q

    by3 : (t : Bool) → eqb x 3 ≡ t → eqb x 1 ≡ false → eqb x 2 ≡ false
        → pick (eqb 1 x) (pick a 1 0) 0 + (pick (eqb 2 x) (pick b 1 0) 0 + (pick (eqb 3 x) (pick c 1 0) 0 + (pick (eqb 4 x) (pick d 1 0) 0 + pick (eqb 5 x) (pick e 1 0) 0)))
        ≡ pick (pick t c (pick (eqb x 4) d (pick (eqb x 5) e false))) 1 0
    by3 true q p1 p2 = rw (eqb-true x 3 q) (omega arith)
    by3 false q p1 p2 = by4 (eqb x 4) refl p1 p2 q

    by2 : (t : Bool) → eqb x 2 ≡ t → eqb x 1 ≡ false
        → pick (eqb 1 x) (pick a 1 0) 0 + (pick (eqb 2 x) (pick b 1 0) 0 + (pick (eqb 3 x) (pick c 1 0) 0 + (pick (eqb 4 x) (pick d 1 0) 0 + pick (eqb 5 x) (pick e 1 0) 0)))
        ≡ pick (pick t b (pick (eqb x 3) c (pick (eqb x 4) d (pick (eqb x 5) e false)))) 1 0
    by2 true q p1 = rw (eqb-true x 2 q) (omega arith)
    by2 false q p1 = by3 (eqb x 3) refl p1 q

    by1 : (t : Bool) → eqb x 1 ≡ t
        → pick (eqb 1 x) (pick a 1 0) 0 + (pick (eqb 2 x) (pick b 1 0) 0 + (pick (eqb 3 x) (pick c 1 0) 0 + (pick (eqb 4 x) (pick d 1 0) 0 + pick (eqb 5 x) (pick e 1 0) 0)))
        ≡ pick (pick t a (pick (eqb x 2) b (pick (eqb x 3) c (pick (eqb x 4) d (pick (eqb x 5) e false))))) 1 0
    by1 true q = rw (eqb-true x 1 q) (omega arith)
    by1 false q = by2 (eqb x 2) refl q

module _ (R : Readings) (S : List Bytes) (x : ℕ) where
  on_page_lem : (k : ℕ) (l : Listing) → times x k (findings_on R S k l) ≡ pick (condition_on R S x k l) 1 0
  unfolding findings_on
  on_page_lem k l =
      let A : List Finding = finding_if (left_unfinished S k) 1 k in
      let B : List Finding = finding_if (has_no_end S k) 2 k in
      let C : List Finding = finding_if (is_overtrimmed R S k l) 3 k in
      let D : List Finding = finding_if (has_gain_tag S k) 4 k in
      let E : List Finding = finding_if (has_hole l) 5 k in
      times-append x k A (B ++ (C ++ (D ++ E)))
      ∙ ap₂ (λ (m n : ℕ). m + n) (times-here x k 1 (left_unfinished S k))
      (times-append x k B (C ++ (D ++ E))
      ∙ ap₂ (λ (m n : ℕ). m + n) (times-here x k 2 (has_no_end S k))
      (times-append x k C (D ++ E)
      ∙ ap₂ (λ (m n : ℕ). m + n) (times-here x k 3 (is_overtrimmed R S k l))
      (times-append x k D E ∙ ap₂ (λ (m n : ℕ). m + n) (times-here x k 4 (has_gain_tag S k)) (times-here x k 5 (has_hole l)))))
      ∙ five x (left_unfinished S k) (has_no_end S k) (is_overtrimmed R S k l) (has_gain_tag S k) (has_hole l)

  off_page : (k j : ℕ) (l : Listing) → (j ≡ k → ⊥) → times x k (findings_on R S j l) ≡ 0
  unfolding findings_on
  off_page k j l n =
      let A : List Finding = finding_if (left_unfinished S j) 1 j in
      let B : List Finding = finding_if (has_no_end S j) 2 j in
      let C : List Finding = finding_if (is_overtrimmed R S j l) 3 j in
      let D : List Finding = finding_if (has_gain_tag S j) 4 j in
      let E : List Finding = finding_if (has_hole l) 5 j in
      let a = times_else x k 1 j (left_unfinished S j) n in
      let b = times_else x k 2 j (has_no_end S j) n in
      let c = times_else x k 3 j (is_overtrimmed R S j l) n in
      let d = times_else x k 4 j (has_gain_tag S j) n in
      let e = times_else x k 5 j (has_hole l) n in
      omega (arith, times-append x k A (B ++ (C ++ (D ++ E))), times-append x k B (C ++ (D ++ E)), times-append x k C (D ++ E), times-append x k D E, a, b, c, d, e)

  -- pages after page k have none on it
  past-page : (k j : ℕ) (ls : List Listing) → k < j → times x k (findings_from R S j ls) ≡ 0
  unfolding findings_from times
  past-page k j [] h = refl
  past-page k j (l ∷ ls) h =
      omega (arith, times-append x k (findings_on R S j l) (findings_from R S (suc j) ls), off_page k j l (λ e. omega arith), past-page k (suc j) ls (omega arith))

  exact_from : (k j : ℕ) (ls : List Listing) → j ≤ k → times x k (findings_from R S j ls) ≡ pick (condition_in R S x k (drop (k - j) ls)) 1 0
  unfolding findings_from times
  exact_from k j [] h = by (k - j)
    where
      by : (n : ℕ) → ◌≡◌ {A = ℕ} 0 (pick (condition_in R S x k (drop n [])) 1 0)
      by zero = refl
      by (suc n) = refl
  exact_from k j (l ∷ ls) h = by (eqb j k) refl (exact_from k (suc j) ls)
    where
      by : (t : Bool) → eqb j k ≡ t → (suc j ≤ k → times x k (findings_from R S (suc j) ls) ≡ pick (condition_in R S x k (drop (k - suc j) ls)) 1 0)
          → times x k (findings_on R S j l ++ findings_from R S (suc j) ls) ≡ pick (condition_in R S x k (drop (k - j) (l ∷ ls))) 1 0
      by true q later =
          let same : j ≡ k = eqb-true j k q in
          let z : k - j ≡ 0 = omega arith in
          let n : ℕ = pick (condition_on R S x k l) 1 0 in
          let here : times x k (findings_on R S j l) ≡ n = ap (λ (i : ℕ). times x k (findings_on R S i l)) same ∙ on_page_lem k l in
          let rest : times x k (findings_from R S (suc j) ls) ≡ 0 = past-page k (suc j) ls (omega arith) in
          let sum : times x k (findings_on R S j l ++ findings_from R S (suc j) ls) ≡ n =
          omega (arith, times-append x k (findings_on R S j l) (findings_from R S (suc j) ls)) in
          sum ∙ ap (λ (i : ℕ). pick (condition_in R S x k (drop i (l ∷ ls))) 1 0) (sym z)
      by false q later =
          let other : (j ≡ k → ⊥) = eqb-false j k q in
          let less : suc j ≤ k = not_same j k h other in
          let z : k - j ≡ suc (k - suc j) = omega arith in
          let n : ℕ = pick (condition_in R S x k (drop (k - suc j) ls)) 1 0 in
          let here : times x k (findings_on R S j l) ≡ 0 = off_page k j l other in
          let rest : times x k (findings_from R S (suc j) ls) ≡ n = later less in
          let sum : times x k (findings_on R S j l ++ findings_from R S (suc j) ls) ≡ n =
          omega (arith, times-append x k (findings_on R S j l) (findings_from R S (suc j) ls)) in
          sum ∙ ap (λ (i : ℕ). pick (condition_in R S x k (drop i (l ∷ ls))) 1 0) (sym z)

pub exact : Exact
unfolding findings
exact R S x k =
    let z : k - 0 ≡ k = omega arith in
    exact_from R S x k 0 (listings R S) (omega arith) ∙ ap (λ (i : ℕ). pick (condition_in R S x k (drop i (listings R S))) 1 0) z
