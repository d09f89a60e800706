-- The list of the numbers that pass a test, in order: a number is in it where it passes. Assumes nothing.
use mathlib.Core.Path.{◌≡◌, refl, ap, ◌∙◌}
use mathlib.Core.Bool.{Bool, true, false, ◌||◌}
use mathlib.Core.List.{[], ◌∷◌}
use mathlib.Core.Logic.{⊎_elim}
use Prim.Native.Nat.{ℕ, zero, suc, ◌+◌, ◌≤◌, ◌<◌}
use native.Mathlib.Nat.{eq-or-lt_of_le}
use native.Mathlib.Omega.{arith}
use lib.Dec.{eqb}
use Rattle.std.specs.List.{list_any}
use borrow.Author.Tests.{eq-eqb, ne_eqb}
use Rattle.octets.specs.Pick.{pick}
use Rattle.octets.specs.Octets.{Bytes}
use Rattle.head_families.specs.Listed.{is_listed}

-- a number is in a list, in the library's words
pub any_listed : (n : ℕ) (s : Bytes) → list_any (λ (i : ℕ). eqb i n) s ≡ is_listed n s
unfolding is_listed
any_listed n [] = refl
any_listed n (i ∷ s) = ap (λ (t : Bool). eqb i n || t) (any_listed n s)

-- those of n numbers from c on that pass
abbrev pub passing : (ℕ → Bool) → ℕ → ℕ → Bytes
passing f zero c = []
passing f (suc n) c = pick (f c) (c ∷ passing f n (suc c)) (passing f n (suc c))

-- the first of them is in the list or not
one_more : (t : Bool) (i c : ℕ) (s : Bytes) → (c ≡ i → ⊥) → is_listed i (pick t (c ∷ s) s) ≡ is_listed i s
unfolding is_listed
one_more true i c s q = rw (ne_eqb c i q)
one_more false i c s q = refl

found_here : (t : Bool) (i c : ℕ) (s : Bytes) → c ≡ i → is_listed i s ≡ false → is_listed i (pick t (c ∷ s) s) ≡ t
unfolding is_listed
found_here true i c s q e = rw (eq-eqb c i q)
found_here false i c s q e = e

module _ (f : ℕ → Bool) (i : ℕ) where
  below : (n c : ℕ) → i < c → is_listed i (passing f n c) ≡ false
  unfolding is_listed
  below zero c h = refl
  below (suc n) c h = one_more (f c) i c (passing f n (suc c)) (λ q. omega arith) ∙ below n (suc c) (omega arith)

  pub listed : (n c : ℕ) → c ≤ i → i < c + n → is_listed i (passing f n c) ≡ f i
  listed zero c l h = absurd (omega arith)
  listed (suc n) c l h =
      ⊎_elim
      (λ (q : c ≡ i). found_here (f c) i c (passing f n (suc c)) q (below n (suc c) (omega arith)) ∙ ap f q)
      (λ (q : c < i). one_more (f c) i c (passing f n (suc c)) (λ p. omega arith) ∙ listed n (suc c) (omega arith) (omega arith))
      (eq-or-lt_of_le l)
