-- Laws of numbers as bytes: one digit more, and there and back. Assumes nothing.
use mathlib.Core.Path.{◌≡◌, refl, ap, ap₂, ◌∙◌}
use mathlib.Core.List.{[], ◌∷◌}
use Prim.Native.Nat.{ℕ, zero, suc, ◌+◌, ◌*◌, ◌/◌, ◌%◌, ◌^◌, ◌≤◌, ◌<◌}
use native.Mathlib.Nat.{pow-suc, le_of_suc-le-suc, not-suc-le-zero}
use native.Mathlib.Numerals.{add-one}
use native.Mathlib.Omega.{arith}
use lib.ListN.{length, get_or, take, drop}
use lib.Seq.{take-nil}
use Rattle.octets.specs.Octets.{Bytes, Octets}
use Rattle.octets.specs.Numbers.{value, octets}
use Rattle.octets.proofs.Parts.{octets-tail}

-- one byte more in front
value_step : (s : Bytes) (q j : ℕ) → value (take (suc j) (drop q s)) ≡ get_or s q 0 + 256 * value (take j (drop (suc q) s))
unfolding value
value_step [] zero j = rw (take-nil {A = ℕ} j)
value_step [] (suc q) j = rw (take-nil {A = ℕ} j)
value_step (b ∷ s) zero j = refl
value_step (b ∷ s) (suc q) j = value_step s q j

pub value-more : (s : Bytes) (q j x : ℕ) → x ≡ value (take j (drop (suc q) s)) → value (take (j + 1) (drop q s)) ≡ get_or s q 0 + 256 * x
value-more s q j x e = rw (add-one j, e) (value_step s q j)

pub length-octets : (n x : ℕ) → length (octets n x) ≡ n
unfolding octets
length-octets zero x = refl
length-octets (suc n) x = ap suc (length-octets n (x / 256))

pub octets-below : (n x : ℕ) → Octets (octets n x)
unfolding octets
octets-below n x = record { below = go n x }
  where
    go : (n x i : ℕ) → get_or (octets n x) i 0 < 256
    go zero x i = omega arith
    go (suc n) x zero = omega arith
    go (suc n) x (suc i) = go n (x / 256) i

pub take-octets : (n m x : ℕ) → n ≤ m → take n (octets m x) ≡ octets n x
unfolding octets
take-octets zero m x h = refl
take-octets (suc n) zero x h = absurd (not-suc-le-zero h)
take-octets (suc n) (suc m) x h = ap (λ (l : Bytes). x % 256 ∷ l) (take-octets n m (x / 256) (le_of_suc-le-suc h))

-- a number that n bytes hold
pub value-octets : (n x : ℕ) → x < 256 ^ n → value (octets n x) ≡ x
unfolding value octets
value-octets zero x h = omega arith
value-octets (suc n) x h =
    let p : ℕ = 256 ^ n in
    let e : 256 ^ suc n ≡ p * 256 = pow-suc 256 n in
    let less : x / 256 < p = omega arith in
    ap (λ (v : ℕ). x % 256 + 256 * v) (value-octets n (x / 256) less) ∙ omega arith

pub octets-value : (s : Bytes) → Octets s → octets (length s) (value s) ≡ s
unfolding value octets
octets-value [] o = refl
octets-value (b ∷ s) o =
    let small : b < 256 = o.below 0 in
    let v : ℕ = value s in
    let head : (b + 256 * v) % 256 ≡ b = omega arith in
    let rest : (b + 256 * v) / 256 ≡ v = omega arith in
    ap₂ (λ (h : ℕ) (t : Bytes). h ∷ t) head (ap (octets (length s)) rest ∙ octets-value s (octets-tail o))

pub value-fits : (s : Bytes) → Octets s → value s < 256 ^ length s
unfolding value
value-fits [] o = omega arith
value-fits (b ∷ s) o =
    let p : ℕ = 256 ^ length s in
    let e : 256 ^ suc (length s) ≡ p * 256 = pow-suc 256 (length s) in
    omega (arith, o.below 0, value-fits s (octets-tail o))
