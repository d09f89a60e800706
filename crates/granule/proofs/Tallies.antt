-- Laws of `tally`. Assumes nothing.
use Prim.Native.Nat.{ℕ, zero, suc, ◌+◌}
use mathlib.Core.Path.{◌≡◌, refl, sym, ap, ap₂, ◌∙◌}
use mathlib.Core.Bool.{Bool, false}
use native.Mathlib.Nat.{add-zero, add-suc}
use native.Mathlib.Omega.{arith}
use Rattle.granule.specs.Samples.{one, tally}

-- two tests that agree
pub tally-same : (f g : ℕ → Bool) → ((j : ℕ) → f j ≡ g j) → (n : ℕ) → tally f n ≡ tally g n
unfolding tally
tally-same f g e zero = refl
tally-same f g e (suc n) = ap₂ (λ (a : ℕ) (b : Bool). a + one b) (tally-same f g e n) (e n)

-- in two parts
pub tally-parts : (f : ℕ → Bool) (d e : ℕ) → tally f (d + e) ≡ tally f d + tally (λ (j : ℕ). f (d + j)) e
unfolding tally
tally-parts f d zero = ap (tally f) (add-zero d) ∙ sym (add-zero (tally f d))
tally-parts f d (suc e) =
    ap (tally f) (add-suc d e) ∙ ap (λ (n : ℕ). n + one (f (d + e))) (tally-parts f d e) ∙ (omega arith)

-- of three tests just one holds of each number
pub tally-three : (f g h : ℕ → Bool) → ((j : ℕ) → one (f j) + one (g j) + one (h j) ≡ 1) → (n : ℕ)
    → tally f n + tally g n + tally h n ≡ n
unfolding tally
tally-three f g h e zero = refl
tally-three f g h e (suc n) = omega (arith, tally-three f g h e n, e n)

pub tally-none : (n : ℕ) → tally (λ (j : ℕ). false) n ≡ 0
unfolding tally
tally-none zero = refl
tally-none (suc n) = ap (λ (k : ℕ). k + 0) (tally-none n)
