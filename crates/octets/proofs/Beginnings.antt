-- Laws of `begins`. Assumes nothing.
use mathlib.Core.Path.{◌≡◌, refl, ap₂}
use mathlib.Core.Bool.{true}
use mathlib.Core.List.{[], ◌∷◌, ◌++◌}
use Prim.Native.Nat.{ℕ}
use native.Mathlib.Omega.{arith}
use borrow.Author.Tests.{eq-eqb}
use lib.ListN.{length, take}
use Rattle.octets.specs.Octets.{Bytes, begins}
use Rattle.octets.proofs.Tests.{equal-and}

pub begins-append : (p s : Bytes) → begins p (p ++ s) ≡ true
unfolding begins
begins-append [] s = refl
begins-append (a ∷ p) s = rw (eq-eqb a a refl) (begins-append p s)

pub begins-take : (p s : Bytes) → begins p s ≡ true → take (length p) s ≡ p
unfolding begins
begins-take [] s e = refl
begins-take (a ∷ p) [] e = let z : ◌≡◌ {A = ℕ} 0 1 = cc in absurd (omega arith)
begins-take (a ∷ p) (b ∷ s) e = let t = equal-and a b (begins p s) e in ap₂ (λ (x : ℕ) (l : Bytes). x ∷ l) (cc) (begins-take p s t.1)
