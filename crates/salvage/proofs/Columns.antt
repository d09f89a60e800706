-- Lines put one after the other. Assumes nothing.
use Rattle.std.proofs.Common.{◌≡◌, ℕ, suc, ◌+◌, ◌≤◌, Bool, true, false, List, [], ◌∷◌, ◌++◌, map, length, set, sym, refl, ap, ◌∙◌, ap₂, append_assoc, arith, length-append}
use lib.Seq.{sets}
use Rattle.salvage_rules.specs.Lines.{Line}
use Rattle.salvage.specs.declared.walk.Changes.{Changes}
use Rattle.salvage.specs.Columns.{line_if, one_if, changes_lines, line_count}

pub sets-append : (l : List ℕ) (i : ℕ) (xs ys : List ℕ) → sets l i (xs ++ ys) ≡ sets (sets l i xs) (i + length xs) ys
sets-append l i [] ys = let z : i ≡ i + 0 = omega arith in ap (λ (k : ℕ). sets l k ys) z
sets-append l i (x ∷ xs) ys =
    let z : suc i + length xs ≡ i + suc (length xs) = omega arith in
    sets-append (set l i x) (suc i) xs ys ∙ ap (λ (k : ℕ). sets (sets (set l i x) (suc i) xs) k ys) z

map-append : (f : Line → ℕ) (A B : List Line) → map f (A ++ B) ≡ map f A ++ map f B
map-append f [] B = refl
map-append f (a ∷ A) B = ap (λ (l : List ℕ). f a ∷ l) (map-append f A B)

pub map-length : (f : Line → ℕ) (A : List Line) → length (map f A) ≡ length A
map-length f [] = refl
map-length f (a ∷ A) = ap suc (map-length f A)

-- a field of lines that are put in two parts
pub column_append : (f : Line → ℕ) (l : List ℕ) (i : ℕ) (A B : List Line)
    → sets l i (map f (A ++ B)) ≡ sets (sets l i (map f A)) (i + length A) (map f B)
column_append f l i A B =
    ap (sets l i) (map-append f A B) ∙ sets-append l i (map f A) (map f B)
    ∙ ap (λ (k : ℕ). sets (sets l i (map f A)) (i + k) (map f B)) (map-length f A)

-- five parts
module _ (f : Line → ℕ) (l : List ℕ) (i : ℕ) (A B C D E : List Line) where
  pub column_five : {m n o p q : List ℕ} {j k s t : ℕ} → m ≡ sets l i (map f A) → j ≡ i + length A → n ≡ sets m j (map f B) → k ≡ j + length B
      → o ≡ sets n k (map f C) → s ≡ k + length C → p ≡ sets o s (map f D) → t ≡ s + length D → q ≡ sets p t (map f E)
      → q ≡ sets l i (map f (A ++ ((B ++ C) ++ (D ++ E))))
  column_five {m} {n} {o} {p} {q} {j} {k} {s} {t} a a' b b' c c' d d' e =
      let last : q ≡ sets o s (map f (D ++ E)) = e ∙ ap₂ (λ (x : List ℕ) (y : ℕ). sets x y (map f E)) d d' ∙ sym (column_append f o s D E) in
      let mid : o ≡ sets m j (map f (B ++ C)) = c ∙ ap₂ (λ (x : List ℕ) (y : ℕ). sets x y (map f C)) b b' ∙ sym (column_append f m j B C) in
      let at : s ≡ j + length (B ++ C) = simp length-append (omega (arith, b', c')) in
      let later : q ≡ sets m j (map f ((B ++ C) ++ (D ++ E))) =
      last ∙ ap₂ (λ (x : List ℕ) (y : ℕ). sets x y (map f (D ++ E))) mid at ∙ sym (column_append f m j (B ++ C) (D ++ E)) in
      later ∙ ap₂ (λ (x : List ℕ) (y : ℕ). sets x y (map f ((B ++ C) ++ (D ++ E)))) a a' ∙ sym (column_append f l i A ((B ++ C) ++ (D ++ E)))

-- ---- how many they are

pub line-length : (t : Bool) (what place bytes : ℕ) → length (line_if t what place bytes) ≡ one_if t
line-length true what place bytes = refl
line-length false what place bytes = refl

pub line-most : (t : Bool) → one_if t ≤ 1
line-most true = omega arith
line-most false = omega arith

pub changes-length : (end place : ℕ) (c : Changes) → length (changes_lines end place c) ≡ line_count c
changes-length end place c =
    simp (length-append, line-length) (omega arith)
