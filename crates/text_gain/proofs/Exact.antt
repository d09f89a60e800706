-- Decibels are exact. Assumes nothing.
use mathlib.Core.Path.{◌≡◌, ap, ◌∙◌}
use mathlib.Core.List.{[], ◌∷◌, ◌++◌}
use Prim.Native.Nat.{ℕ, zero, suc, ◌+◌, ◌*◌, ◌-◌, ◌/◌, ◌%◌, ◌^◌, ◌<◌}
use native.Mathlib.Nat.{pow-suc, mul_assoc}
use native.Mathlib.Omega.{arith}
use lib.IntN.{nat_abs}
use Rattle.text_decimal.specs.Decimal.{digit, decimal, number_after, number_read}
use Rattle.text_decimal.specs.Digits.{lowest}
use Rattle.text_decimal.proofs.Reading.{number_append, decimal_right}
use Rattle.text_gain.specs.Statements.{DecibelsExact}

-- the lowest n digits after a number v
number-lowest : (n v x : ℕ) → x < 10 ^ n → number_after v (lowest n x) ≡ v * 10 ^ n + x
unfolding number_after lowest
number-lowest zero v x h = omega arith
number-lowest (suc n) v x h =
    let p : ℕ = 10 ^ n in
    let more : 10 ^ suc n ≡ p * 10 = pow-suc 10 n in
    let less : x / 10 < p = omega arith in
    let product : v * (p * 10) ≡ v * p * 10 = tens v p in
    number_append v (lowest n (x / 10)) (digit (x % 10) ∷ [])
    ∙ ap (λ (w : ℕ). w * 10 + (digit (x % 10) - 48)) (number-lowest n v (x / 10) less)
    ∙ rw (more, product) (omega arith)
  where
    tens : (v p : ℕ) → v * (p * 10) ≡ v * p * 10
    tens v p = rw mul_assoc

pub decibels_exact : DecibelsExact
decibels_exact g =
    let m : ℕ = nat_abs g in
    let rest : ℕ = m % 256 * 390625 in
    let read : number_read (decimal (m / 256) ++ lowest 8 rest) ≡ m / 256 * 10 ^ 8 + rest =
    (number_append 0 (decimal (m / 256)) (lowest 8 rest)
    ∙ ap (λ (v : ℕ). number_after v (lowest 8 rest)) (decimal_right (m / 256)).number
    ∙ number-lowest 8 (m / 256) rest (omega arith)) in
    rw read (omega arith)
