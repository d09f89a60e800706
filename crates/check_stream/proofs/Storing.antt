-- Findings stored one after the other, as far as the two lists go. Assumes nothing.
use Prim.Native.Nat.{ℕ, suc, ◌+◌, ◌≤◌}
use mathlib.Core.Path.{◌≡◌, refl, sym, ap, ap₂, ◌∙◌}
use mathlib.Core.List.{List, [], ◌∷◌, ◌++◌, map}
use native.Mathlib.Omega.{arith}
use lib.ListN.{length, set, drop, length-append, length-map}
use lib.Seq.{sets, sets-eq}
use Rattle.check_rules.specs.Findings.{Finding}
use Rattle.check_stream.specs.Code.{kind_in, page_in, Put}

sets-append : (l : List ℕ) (i : ℕ) (xs ys : List ℕ) → sets l i (xs ++ ys) ≡ sets (sets l i xs) (i + length xs) ys
sets-append l i [] ys = let z : i ≡ i + 0 = omega arith in ap (λ (k : ℕ). sets l k ys) z
sets-append l i (x ∷ xs) ys =
    let z : suc i + length xs ≡ i + suc (length xs) = omega arith in
    sets-append (set l i x) (suc i) xs ys ∙ ap (λ (k : ℕ). sets (sets (set l i x) (suc i) xs) k ys) z

map-append : (f : Finding → ℕ) (A B : List Finding) → map f (A ++ B) ≡ map f A ++ map f B
map-append f [] B = refl
map-append f (a ∷ A) B = ap (λ (l : List ℕ). f a ∷ l) (map-append f A B)

-- a field of findings that are stored in two parts
pub field-append : (f : Finding → ℕ) (l : List ℕ) (i : ℕ) (A B : List Finding)
    → sets l i (map f (A ++ B)) ≡ sets (sets l i (map f A)) (i + length A) (map f B)
field-append f l i A B =
    ap (sets l i) (map-append f A B) ∙ sets-append l i (map f A) (map f B)
    ∙ ap (λ (k : ℕ). sets (sets l i (map f A)) (i + k) (map f B)) (length-map A f)

field_both : (f : Finding → ℕ) (l : List ℕ) (i : ℕ) (A B : List Finding) {m q : List ℕ} {j : ℕ} → m ≡ sets l i (map f A) → j ≡ i + length A
    → q ≡ sets m j (map f B) → q ≡ sets l i (map f (A ++ B))
field_both f l i A B {m} {q} {j} a next b =
    b ∙ ap₂ (λ (x : List ℕ) (y : ℕ). sets x y (map f B)) a next ∙ sym (field-append f l i A B)

pub put_both : {A B : List Finding} {at n m r s : ℕ} {kinds kinds' kinds'' pages pages' pages'' : List ℕ} → Put A at n r kinds kinds' pages pages'
    → Put B r m s kinds' kinds'' pages' pages'' → Put (A ++ B) at (n + m) s kinds kinds'' pages pages''
put_both {A} {B} {at} {n} {m} {r} {s} {kinds} {kinds'} {kinds''} {pages} p q = record {
  next = omega (arith, p.next, q.next, length-append A B);
  most = omega (arith, p.most, q.most);
  kind = field_both kind_in kinds at A B p.kind p.next q.kind;
  page = field_both page_in pages at A B p.page p.next q.page;
}

-- where all of them fit
pub field_stored : (f : Finding → ℕ) (fs : List Finding) (old : List ℕ) → length fs ≤ length old → sets old 0 (map f fs) ≡ map f fs ++ drop (length fs) old
field_stored f fs old h =
    let k : length (map f fs) ≡ length fs = length-map fs f in
    let z : 0 + length (map f fs) ≡ length fs = omega (arith, k) in
    sets-eq (map f fs) old 0 (omega (arith, k)) ∙ ap (λ (i : ℕ). map f fs ++ drop i old) z
