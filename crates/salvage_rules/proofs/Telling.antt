-- What the lines of a kept page tell. Assumes nothing.
use Prim.Native.Nat.{ℕ}
use mathlib.Core.Path.{◌≡◌, refl, sym, ap, ◌∙◌}
use mathlib.Core.Bool.{Bool, true, false}
use mathlib.Core.List.{List, [], ◌∷◌, ◌++◌, map, append-nil}
use native.Mathlib.Omega.{arith}
use borrow.Author.Tests.{eqb-true}
use lib.Dec.{eqb}
use Rattle.octets.specs.Pick.{pick}
use Rattle.salvage_rules.specs.Tidy.{Tidied}
use Rattle.salvage_rules.specs.Lines.{Line, line, changes}
use Rattle.salvage_rules.specs.Changes.{told_of}

told-append : (k : ℕ) (a b : List Line) → told_of k (a ++ b) ≡ told_of k a ++ told_of k b
unfolding told_of
told-append k [] b = refl
told-append k (l ∷ a) b = by (eqb l.what k) (told-append k a b)
  where
    by : (t : Bool) → told_of k (a ++ b) ≡ told_of k a ++ told_of k b
        → pick t (l.bytes ∷ told_of k (a ++ b)) (told_of k (a ++ b)) ≡ pick t (l.bytes ∷ told_of k a) (told_of k a) ++ told_of k b
    by true e = ap (λ (ns : List ℕ). l.bytes ∷ ns) e
    by false e = e

cuts-told : (at : ℕ) (ns : List ℕ) → told_of 3 (map (line 3 at) ns) ≡ ns
unfolding told_of
cuts-told at [] = refl
cuts-told at (n ∷ ns) = ap (λ (l : List ℕ). n ∷ l) (cuts-told at ns)

no_number : (at : ℕ) (ns : List ℕ) → told_of 1 (map (line 3 at) ns) ≡ []
unfolding told_of
no_number at [] = refl
no_number at (n ∷ ns) = no_number at ns

no_mark : (at : ℕ) (ns : List ℕ) → told_of 2 (map (line 3 at) ns) ≡ []
unfolding told_of
no_mark at [] = refl
no_mark at (n ∷ ns) = no_mark at ns

-- the lines of the number and of the mark
abbrev small : ℕ → Bool → Bool → List Line
small at x y = pick x [] (line 1 at 4 ∷ []) ++ pick y (line 2 at 1 ∷ []) []

small-cuts : (at : ℕ) (x y : Bool) → told_of 3 (small at x y) ≡ []
unfolding told_of
small-cuts at true true = refl
small-cuts at true false = refl
small-cuts at false true = refl
small-cuts at false false = refl

small-mark : (at : ℕ) (x y : Bool) → told_of 2 (small at x y) ≡ pick y (1 ∷ []) []
unfolding told_of
small-mark at true true = refl
small-mark at true false = refl
small-mark at false true = refl
small-mark at false false = refl

small-number : (at : ℕ) (x y : Bool) → told_of 1 (small at x y) ≡ pick x [] (4 ∷ [])
unfolding told_of
small-number at true true = refl
small-number at true false = refl
small-number at false true = refl
small-number at false false = refl

module _ (t : Tidied) where
  abbrev unnumbered : Bool
  unnumbered = eqb t.page.header.sequence t.old.page.header.sequence

  in_two : (k : ℕ) → told_of k (changes t) ≡ told_of k (small t.old.place unnumbered t.cleared) ++ told_of k (map (line 3 t.old.place) t.cuts)
  unfolding changes
  in_two k = told-append k (small t.old.place unnumbered t.cleared) (map (line 3 t.old.place) t.cuts)

  pub told_cuts : told_of 3 (changes t) ≡ t.cuts
  told_cuts = in_two 3 ∙ rw (small-cuts t.old.place unnumbered t.cleared, cuts-told t.old.place t.cuts)

  pub told-mark : told_of 2 (changes t) ≡ pick t.cleared (1 ∷ []) []
  told-mark = in_two 2 ∙ rw (small-mark t.old.place unnumbered t.cleared, no_mark t.old.place t.cuts) (append-nil (pick t.cleared (1 ∷ []) []))

  pub told-number : told_of 1 (changes t) ≡ [] → t.page.header.sequence ≡ t.old.page.header.sequence
  told-number e = by unnumbered refl (sym (in_two 1 ∙ rw (small-number t.old.place unnumbered t.cleared, no_number t.old.place t.cuts) (append-nil (pick unnumbered [] (4 ∷ [])))) ∙ e)
    where
      by : (x : Bool) → unnumbered ≡ x → ◌≡◌ {A = List ℕ} (pick x [] (4 ∷ [])) [] → t.page.header.sequence ≡ t.old.page.header.sequence
      by true h q = eqb-true t.page.header.sequence t.old.page.header.sequence h
      by false h q = let z : ◌≡◌ {A = ℕ} 0 1 = cc in absurd (omega arith)
