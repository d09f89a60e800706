-- Tests on numbers: from what calls gave to what their promises name, and a test made of two. Assumes nothing.
use mathlib.Core.Path.{◌≡◌, refl, ◌∙◌, sym}
use mathlib.Core.Bool.{Bool, true, false, ◌&&◌}
use Prim.Native.Nat.{ℕ, ◌≤◌, ◌<◌}
use native.Mathlib.Omega.{arith}
use borrow.Author.Tests.{eq-eqb, ne_eqb, eqb-true, ltb-true, ltb-false}
use lib.Dec.{eqb, ltb}

-- two numbers that calls gave
pub agrees : {r q x y : ℕ} → r ≡ x → q ≡ y → r ≡ q → eqb x y ≡ true
agrees {r} {q} {x} {y} e f h = eq-eqb x y (sym e ∙ h ∙ f)

pub differs : {r q x y : ℕ} → r ≡ x → q ≡ y → (r ≡ q → ⊥) → eqb x y ≡ false
differs {r} {q} {x} {y} e f h = ne_eqb x y (λ p. h (e ∙ p ∙ sym f))

-- a number that a call gave, and another that it equals
pub equals : {r x k : ℕ} → r ≡ x → r ≡ k → eqb x k ≡ true
equals {k = k} e h = agrees {y = k} e refl h

pub unequal : {r x k : ℕ} → r ≡ x → (r ≡ k → ⊥) → eqb x k ≡ false
unequal {k = k} e h = differs {y = k} e refl h

-- a call's answer to whether a number is below another, as `octets::is_short` gives it
pub is_below : {r : Bool} {a b : ℕ} → r ≡ ltb a b → r ≡ true → a < b
is_below {a = a} {b = b} e h = ltb-true a b (sym e ∙ h)

pub not-below : {r : Bool} {a b : ℕ} → r ≡ ltb a b → r ≡ false → b ≤ a
not-below {a = a} {b = b} e h = ltb-false a b (sym e ∙ h)

-- a call's answer that was tested
pub failed : {r t : Bool} → r ≡ t → r ≡ false → t ≡ false
failed e h = sym e ∙ h

pub held : {r t : Bool} → r ≡ t → r ≡ true → t ≡ true
held e h = sym e ∙ h

pub both : (a b : Bool) → a && b ≡ true → (a ≡ true) × (b ≡ true)
both true b e = (refl, e)
both false b e = let z : ◌≡◌ {A = ℕ} 0 1 = cc in absurd (omega arith)

pub equal-and : (m n : ℕ) (t : Bool) → eqb m n && t ≡ true → (m ≡ n) × (t ≡ true)
equal-and m n t e = let b = both (eqb m n) t e in (eqb-true m n b.0, b.1)
