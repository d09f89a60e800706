-- Laws of numbers in decimal: one digit more, four digits more, and how many there are. Assumes nothing.
use mathlib.Core.Path.{◌≡◌, refl, ap, ◌∙◌}
use mathlib.Core.Bool.{Bool, true, false}
use mathlib.Core.List.{[], ◌∷◌, ◌++◌, append_assoc}
use Prim.Native.Nat.{ℕ, zero, suc, ◌+◌, ◌*◌, ◌/◌, ◌%◌, ◌^◌, ◌≤◌, ◌<◌}
use native.Mathlib.Nat.{pow-suc}
use native.Mathlib.Omega.{arith}
use borrow.Author.Tests.{lt-ltb, le-ltb, ltb-true, ltb-false}
use lib.Dec.{ltb}
use lib.ListN.{length, length-append}
use Rattle.octets.specs.Pick.{pick}
use Rattle.octets.specs.Octets.{Bytes}
use Rattle.text_decimal.specs.Decimal.{digit, decimal_within, decimal}
use Rattle.text_decimal.specs.Digits.{lowest}

-- the last digit taken off, where there are more
step : (n m x : ℕ) → (10 ≤ x → decimal_within n (x / 10) ≡ decimal_within m (x / 10)) → decimal_within (suc n) x ≡ decimal_within (suc m) x
unfolding decimal_within
step n m x f = by (ltb x 10) refl
  where
    by : (t : Bool) → ltb x 10 ≡ t
        → pick t (digit x ∷ []) (decimal_within n (x / 10) ++ (digit (x % 10) ∷ []))
        ≡ pick t (digit x ∷ []) (decimal_within m (x / 10) ++ (digit (x % 10) ∷ []))
    by true e = refl
    by false e = ap (λ (s : Bytes). s ++ (digit (x % 10) ∷ [])) (f (ltb-false x 10 e))

-- room for more digits changes nothing
within_same : (n m x : ℕ) → x < n → x < m → decimal_within n x ≡ decimal_within m x
within_same zero m x h k = absurd (omega arith)
within_same (suc n) zero x h k = absurd (omega arith)
within_same (suc n) (suc m) x h k = step n m x (λ ten. within_same n m (x / 10) (omega arith) (omega arith))

pub decimal-one : (x : ℕ) → x < 10 → decimal x ≡ digit x ∷ []
unfolding decimal decimal_within
decimal-one x h = rw (lt-ltb x 10 h)

pub decimal-more : (x : ℕ) → 10 ≤ x → decimal x ≡ decimal (x / 10) ++ (digit (x % 10) ∷ [])
unfolding decimal decimal_within
decimal-more x h =
    rw (le-ltb x 10 h)
    (ap (λ (s : Bytes). s ++ (digit (x % 10) ∷ [])) (within_same x (suc (x / 10)) (x / 10) (omega arith) (omega arith)))

-- what holds of each digit, and of a number if of it without its last digit, holds of every number
pub by_tens : (P : ℕ → Type 0) → ((x : ℕ) → x < 10 → P x) → ((x : ℕ) → 10 ≤ x → P (x / 10) → P x) → (x : ℕ) → P x
by_tens P one more x = go (suc x) x (omega arith)
  where
    by : (x : ℕ) (t : Bool) → ltb x 10 ≡ t → (10 ≤ x → P (x / 10)) → P x
    by x true e f = one x (ltb-true x 10 e)
    by x false e f = more x (ltb-false x 10 e) (f (ltb-false x 10 e))

    go : (n x : ℕ) → x < n → P x
    go zero x h = absurd (omega arith)
    go (suc n) x h = by x (ltb x 10) refl (λ ten. go n (x / 10) (omega arith))

pub length-ended : (x b : ℕ) → length (decimal x ++ (b ∷ [])) ≡ length (decimal x) + 1
length-ended x b = length-append (decimal x) (b ∷ [])

pub length_more : (x : ℕ) → 10 ≤ x → length (decimal x) ≡ length (decimal (x / 10)) + 1
length_more x h = ap length (decimal-more x h) ∙ length-append (decimal (x / 10)) (digit (x % 10) ∷ [])

-- a number below a power of ten has no more digits than that
pub length_most : (x k : ℕ) → x < 10 ^ suc k → length (decimal x) ≤ suc k
length_most = by_tens (λ (x : ℕ). (k : ℕ) → x < 10 ^ suc k → length (decimal x) ≤ suc k) one more
  where
    one : (x : ℕ) → x < 10 → (k : ℕ) → x < 10 ^ suc k → length (decimal x) ≤ suc k
    one x h k e = rw (decimal-one x h) (omega arith)

    more : (x : ℕ) → 10 ≤ x → ((k : ℕ) → x / 10 < 10 ^ suc k → length (decimal (x / 10)) ≤ suc k)
        → (k : ℕ) → x < 10 ^ suc k → length (decimal x) ≤ suc k
    more x h f zero e = absurd (omega arith)
    more x h f (suc k) e =
        let p : ℕ = 10 ^ suc k in
        let q : 10 ^ suc (suc k) ≡ p * 10 = pow-suc 10 (suc k) in
        let less : x / 10 < p = omega arith in
        omega (arith, f k less, length_more x h)

pub length-u64 : (x : ℕ) → x < 2 ^ 64 → length (decimal x) ≤ 20
length-u64 x h = length_most x 19 (omega arith)

-- the digits two, three and four at a time
pub decimal-two : (x : ℕ) → 10 ≤ x → x < 100 → decimal x ≡ digit (x / 10) ∷ digit (x % 10) ∷ []
decimal-two x h k = decimal-more x h ∙ ap (λ (s : Bytes). s ++ (digit (x % 10) ∷ [])) (decimal-one (x / 10) (omega arith))

pub decimal-three : (x : ℕ) → 100 ≤ x → x < 1000 → decimal x ≡ digit (x / 100) ∷ digit (x / 10 % 10) ∷ digit (x % 10) ∷ []
decimal-three x h k =
    let top : x / 10 / 10 ≡ x / 100 = omega arith in
    decimal-more x (omega arith)
    ∙ ap (λ (s : Bytes). s ++ (digit (x % 10) ∷ [])) (decimal-two (x / 10) (omega arith) (omega arith))
    ∙ ap (λ (a : ℕ). digit a ∷ digit (x / 10 % 10) ∷ digit (x % 10) ∷ []) top

pub length-lowest : (n x : ℕ) → length (lowest n x) ≡ n
unfolding lowest
length-lowest zero x = refl
length-lowest (suc n) x =
    length-append (lowest n (x / 10)) (digit (x % 10) ∷ []) ∙ omega (arith, length-lowest n (x / 10))

pub lowest-four : (x : ℕ) → x < 10000
    → lowest 4 x ≡ digit (x / 100 / 10) ∷ digit (x / 100 % 10) ∷ digit (x % 100 / 10) ∷ digit (x % 100 % 10) ∷ []
unfolding lowest
lowest-four x h =
    let a : x / 10 / 10 / 10 % 10 ≡ x / 100 / 10 = omega arith in
    let b : x / 10 / 10 % 10 ≡ x / 100 % 10 = omega arith in
    let c : x / 10 % 10 ≡ x % 100 / 10 = omega arith in
    let d : x % 10 ≡ x % 100 % 10 = omega arith in
    rw (a, b, c, d)

-- they are those of the last four digits alone
pub lowest-same : (x : ℕ) → lowest 4 (x % 10000) ≡ lowest 4 x
unfolding lowest
lowest-same x =
    let a : x % 10000 / 10 / 10 / 10 % 10 ≡ x / 10 / 10 / 10 % 10 = omega arith in
    let b : x % 10000 / 10 / 10 % 10 ≡ x / 10 / 10 % 10 = omega arith in
    let c : x % 10000 / 10 % 10 ≡ x / 10 % 10 = omega arith in
    let d : x % 10000 % 10 ≡ x % 10 = omega arith in
    rw (a, b, c, d)

-- eight digits, four at a time
pub lowest-eight : (x : ℕ) → lowest 8 x ≡ lowest 4 (x / 10000) ++ lowest 4 x
unfolding lowest
lowest-eight x =
    let q : x / 10 / 10 / 10 / 10 ≡ x / 10000 = omega arith in
    rw q

pub decimal-four : (x : ℕ) → 1000 ≤ x → x < 10000 → decimal x ≡ lowest 4 x
unfolding lowest
decimal-four x h k =
    let a : x / 10 / 100 ≡ x / 10 / 10 / 10 % 10 = omega arith in
    decimal-more x (omega arith)
    ∙ ap (λ (s : Bytes). s ++ (digit (x % 10) ∷ [])) (decimal-three (x / 10) (omega arith) (omega arith))
    ∙ rw a

pub decimal_fours : (x : ℕ) → 10000 ≤ x → decimal x ≡ decimal (x / 10000) ++ lowest 4 (x % 10000)
unfolding lowest
decimal_fours x h =
    let q : x / 10 / 10 / 10 / 10 ≡ x / 10000 = omega arith in
    let a : x / 10 / 10 / 10 % 10 ≡ x % 10000 / 10 / 10 / 10 % 10 = omega arith in
    let b : x / 10 / 10 % 10 ≡ x % 10000 / 10 / 10 % 10 = omega arith in
    let c : x / 10 % 10 ≡ x % 10000 / 10 % 10 = omega arith in
    let d : x % 10 ≡ x % 10000 % 10 = omega arith in
    rw (
      decimal-more x (omega arith),
      decimal-more (x / 10) (omega arith),
      decimal-more (x / 10 / 10) (omega arith),
      decimal-more (x / 10 / 10 / 10) (omega arith),
      q,
      a,
      b,
      c,
      d,
    ) (simp append_assoc)

pub decimal_eights : (x : ℕ) → 100000000 ≤ x
    → decimal x ≡ decimal (x / 100000000) ++ (lowest 4 (x % 100000000 / 10000) ++ lowest 4 (x % 100000000 % 10000))
decimal_eights x h =
    let q : x / 10000 / 10000 ≡ x / 100000000 = omega arith in
    let a : x / 10000 % 10000 ≡ x % 100000000 / 10000 = omega arith in
    let b : x % 10000 ≡ x % 100000000 % 10000 = omega arith in
    rw (decimal_fours x (omega arith), decimal_fours (x / 10000) (omega arith), q, a, b) (simp append_assoc)

pub length_fours : (x : ℕ) → 10000 ≤ x → length (decimal x) ≡ length (decimal (x / 10000)) + 4
length_fours x h =
    ap length (decimal_fours x h)
    ∙ length-append (decimal (x / 10000)) (lowest 4 (x % 10000))
    ∙ omega (arith, length-lowest 4 (x % 10000))

pub length-eight : (x : ℕ) → length (lowest 4 (x / 10000) ++ lowest 4 (x % 10000)) ≡ 8
length-eight x =
    length-append (lowest 4 (x / 10000)) (lowest 4 (x % 10000))
    ∙ omega (arith, length-lowest 4 (x / 10000), length-lowest 4 (x % 10000))

pub length_eights : (x : ℕ) → 100000000 ≤ x → length (decimal x) ≡ length (decimal (x / 100000000)) + 8
length_eights x h =
    ap length (decimal_eights x h)
    ∙ length-append (decimal (x / 100000000)) (lowest 4 (x % 100000000 / 10000) ++ lowest 4 (x % 100000000 % 10000))
    ∙ omega (arith, length-eight (x % 100000000))
