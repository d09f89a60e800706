-- Digits as the bytes of one number, least byte first. Assumes nothing.
use mathlib.Core.Path.{◌≡◌, sym, ap, ◌∙◌}
use mathlib.Core.List.{[], ◌∷◌, ◌++◌}
use Prim.Native.Nat.{ℕ, ◌+◌, ◌*◌, ◌-◌, ◌/◌, ◌%◌, ◌≤◌, ◌<◌}
use native.Mathlib.Omega.{arith}
use Rattle.octets.specs.Numbers.{octets}
use Rattle.text_decimal.specs.Decimal.{decimal}
use Rattle.text_decimal.specs.Digits.{lowest}
use Rattle.text_decimal.proofs.Decimal.{decimal-three, lowest-four}

-- four bytes
pub word : (a b c d : ℕ) → a < 256 → b < 256 → c < 256 → d < 256
    → octets 4 (a + b * 256 + c * 65536 + d * 16777216) ≡ a ∷ b ∷ c ∷ d ∷ []
unfolding octets
word a b c d ha hb hc hd =
    let w : ℕ = a + b * 256 + c * 65536 + d * 16777216 in
    let first : w % 256 ≡ a = omega arith in
    let rest : w / 256 ≡ b + c * 256 + d * 65536 = omega arith in
    let second : (b + c * 256 + d * 65536) % 256 ≡ b = omega arith in
    let end : (b + c * 256 + d * 65536) / 256 ≡ c + d * 256 = omega arith in
    let third : (c + d * 256) % 256 ≡ c = omega arith in
    let last : (c + d * 256) / 256 ≡ d = omega arith in
    let fourth : d % 256 ≡ d = omega arith in
    rw (first, rest, second, end, third, last, fourth)

pub word_places : (w : ℕ) → octets 4 w ≡ w % 256 ∷ w / 256 % 256 ∷ w / 65536 % 256 ∷ w / 16777216 % 256 ∷ []
unfolding octets
word_places w =
    let c : w / 256 / 256 ≡ w / 65536 = omega arith in
    let d : w / 256 / 256 / 256 ≡ w / 16777216 = omega arith in
    rw (d, c)

-- two numbers below 100 side by side, and a tenth of each at once
abbrev pub pairs_of : ℕ → ℕ
pairs_of x = x / 100 + x % 100 * 65536

abbrev pub tens_of : ℕ → ℕ
tens_of n = n * 103 / 1024 % 16 + n * 103 / 1024 / 65536 % 16 * 65536

tenths : (p q r s : ℕ) → p < 10 → q < 10 → r < 10 → s < 10 → tens_of (10 * p + q + (10 * r + s) * 65536) ≡ p + r * 65536
tenths p q r s hp hq hr hs =
    let e : (10 * p + q + (10 * r + s) * 65536) * 103 / 1024 ≡ p + (10 * r + s) * 6592 = omega arith in
    let low : (p + (10 * r + s) * 6592) % 16 ≡ p = omega arith in
    let rest : (p + (10 * r + s) * 6592) / 65536 ≡ r = omega arith in
    let high : r % 16 ≡ r = omega arith in
    rw (e, low, rest, high)

module _ (x : ℕ) (small : x < 10000) where
  pairs : pairs_of x ≡ 10 * (x / 100 / 10) + x / 100 % 10 + (10 * (x % 100 / 10) + x % 100 % 10) * 65536
  pairs = omega arith

  pub tens : tens_of (pairs_of x) ≡ x / 100 / 10 + x % 100 / 10 * 65536
  tens =
      ap tens_of pairs
      ∙ tenths (x / 100 / 10) (x / 100 % 10) (x % 100 / 10) (x % 100 % 10) (omega arith) (omega arith) (omega arith) (omega arith)

  pub four_right : octets 4 (808464432 + tens_of (pairs_of x) + (pairs_of x - 10 * tens_of (pairs_of x)) * 256) ≡ lowest 4 x
  four_right =
      let a : ℕ = x / 100 / 10 in
      let b : ℕ = x / 100 % 10 in
      let c : ℕ = x % 100 / 10 in
      let d : ℕ = x % 100 % 10 in
      ap (octets 4) (sum a b c d (pairs_of x) (tens_of (pairs_of x)) pairs tens)
      ∙ word (48 + a) (48 + b) (48 + c) (48 + d) (omega arith) (omega arith) (omega arith) (omega arith)
      ∙ sym (lowest-four x small)
    where
      sum : (a b c d n t : ℕ) → n ≡ 10 * a + b + (10 * c + d) * 65536 → t ≡ a + c * 65536
          → 808464432 + t + (n - 10 * t) * 256 ≡ 48 + a + (48 + b) * 256 + (48 + c) * 65536 + (48 + d) * 16777216
      sum a b c d n t hn ht = omega arith

-- three digits and a byte
pub three_right : (x b r : ℕ) → 100 ≤ x → x < 1000 → r ≡ b → r < 256
    → octets 4 (3158064 + x / 100 + x % 100 / 10 * 256 + (x % 100 - 10 * (x % 100 / 10)) * 65536 + r * 16777216) ≡ decimal x ++ (b ∷ [])
three_right x b r low high e small =
    let second : x % 100 / 10 ≡ x / 10 % 10 = omega arith in
    let third : x % 100 - 10 * (x % 100 / 10) ≡ x % 10 = omega arith in
    let w : 3158064 + x / 100 + x % 100 / 10 * 256 + (x % 100 - 10 * (x % 100 / 10)) * 65536 + r * 16777216
    ≡ 48 + x / 100 + (48 + x / 10 % 10) * 256 + (48 + x % 10) * 65536 + r * 16777216 = omega arith in
    ap (octets 4) w
    ∙ word (48 + x / 100) (48 + x / 10 % 10) (48 + x % 10) r (omega arith) (omega arith) (omega arith) small
    ∙ rw (e, decimal-three x low high)
