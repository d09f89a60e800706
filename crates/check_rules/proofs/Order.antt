-- The findings are in order: by page, and on one page by kind. Assumes nothing.
use Prim.Native.Nat.{ℕ, suc, ◌≤◌, ◌<◌}
use mathlib.Core.Path.{◌≡◌, refl, sym, ap, subst, ◌∙◌}
use mathlib.Core.Logic.{◌⊎◌, inl, inr}
use mathlib.Core.Bool.{Bool, true, false}
use mathlib.Core.List.{List, [], ◌∷◌, ◌++◌, append_assoc}
use native.Mathlib.Omega.{arith}
use Rattle.octets.specs.Octets.{Bytes}
use Rattle.stream.specs.Readings.{Readings}
use Rattle.stream.specs.Stream.{Listing, listings}
use Rattle.check_rules.specs.Findings.{left_unfinished, has_no_end, is_overtrimmed, has_gain_tag, has_hole, Finding, finding_if, findings_on, findings_from, findings}
use Rattle.check_rules.specs.Statements.{Before, BeforeAll, Ordered, InOrder}

-- on a page after page p, or on page p and of the kind n at least
abbrev Least : ℕ → ℕ → Finding → Type 0
Least p n f = (p < f.page) ⊎ ((p ≡ f.page) × (n ≤ f.kind))

abbrev AllLeast : ℕ → ℕ → List Finding → Type 0
AllLeast p n [] = Unit {0}
AllLeast p n (f ∷ fs) = Least p n f × AllLeast p n fs

-- such findings, in order
record From (p n : ℕ) (fs : List Finding) : Type 0 where
  least : AllLeast p n fs
  ordered : Ordered fs

lower : (p n : ℕ) (fs : List Finding) → AllLeast p (suc n) fs → AllLeast p n fs
lower p n [] a = tt
lower p n (f ∷ fs) a = (by a.0, lower p n fs a.1)
  where
    by : Least p (suc n) f → Least p n f
    by (inl h) = inl h
    by (inr h) = inr (h.0, (let z : suc n ≤ f.kind = h.1 in omega arith))

earlier : (p n m : ℕ) (fs : List Finding) → AllLeast (suc p) n fs → AllLeast p m fs
earlier p n m [] a = tt
earlier p n m (f ∷ fs) a = (by a.0, earlier p n m fs a.1)
  where
    by : Least (suc p) n f → Least p m f
    by (inl h) = inl (omega arith)
    by (inr h) = inl (let z : suc p ≡ f.page = h.0 in omega arith)

before-all : (p n : ℕ) (fs : List Finding) → AllLeast p (suc n) fs → BeforeAll (record { kind = n; page = p }) fs
unfolding BeforeAll
before-all p n [] a = tt
before-all p n (f ∷ fs) a = (by a.0, before-all p n fs a.1)
  where
    by : Least p (suc n) f → Before (record { kind = n; page = p }) f
    by (inl h) = inl h
    by (inr h) = inr (h.0, h.1)

-- one finding more in front, if it holds
one_more : (p n : ℕ) (holds : Bool) (fs : List Finding) → From p (suc n) fs → From p n (finding_if holds n p ++ fs)
unfolding Ordered
one_more p n true fs k = record { least = (inr (refl, omega arith), lower p n fs k.least); ordered = (before-all p n fs k.least, k.ordered) }
one_more p n false fs k = record { least = lower p n fs k.least; ordered = k.ordered }

module _ (R : Readings) (S : List Bytes) where
  page-more : (k : ℕ) (l : Listing) (fs : List Finding) → From k 6 fs → From k 1 (findings_on R S k l ++ fs)
  unfolding findings_on
  page-more k l fs z =
      let a : List Finding = finding_if (left_unfinished S k) 1 k in
      let b : List Finding = finding_if (has_no_end S k) 2 k in
      let c : List Finding = finding_if (is_overtrimmed R S k l) 3 k in
      let d : List Finding = finding_if (has_gain_tag S k) 4 k in
      let e : List Finding = finding_if (has_hole l) 5 k in
      let apart : (a ++ (b ++ (c ++ (d ++ e)))) ++ fs ≡ a ++ (b ++ (c ++ (d ++ (e ++ fs)))) =
      append_assoc a (b ++ (c ++ (d ++ e))) fs
      ∙ ap (λ (x : List Finding). a ++ x) (append_assoc b (c ++ (d ++ e)) fs
      ∙ ap (λ (x : List Finding). b ++ x) (append_assoc c (d ++ e) fs ∙ ap (λ (x : List Finding). c ++ x) (append_assoc d e fs))) in
      subst (From k 1) (sym apart)
      (one_more k 1 (left_unfinished S k) _ (one_more k 2 (has_no_end S k) _ (one_more k 3 (is_overtrimmed R S k l) _
      (one_more k 4 (has_gain_tag S k) _ (one_more k 5 (has_hole l) fs z)))))

  from : (k : ℕ) (ls : List Listing) → From k 1 (findings_from R S k ls)
  unfolding findings_from Ordered
  from k [] = record { least = tt; ordered = tt }
  from k (l ∷ ls) =
      let z : From (suc k) 1 (findings_from R S (suc k) ls) = from (suc k) ls in
      page-more k l (findings_from R S (suc k) ls) (record { least = earlier k 1 6 (findings_from R S (suc k) ls) z.least; ordered = z.ordered })

pub in_order : InOrder
unfolding findings
in_order R S = (from R S 0 (listings R S)).ordered
