-- One byte more of a character: of its tails, and of its number. Assumes nothing.
use mathlib.Core.Path.{◌≡◌, refl, sym, ap}
use mathlib.Core.Bool.{Bool, true, false, ◌&&◌}
use mathlib.Core.Logic.{◌≢◌}
use mathlib.Core.List.{[], ◌∷◌}
use Prim.Native.Nat.{ℕ, zero, suc, ◌+◌, ◌-◌, ◌*◌, ◌%◌, ◌^◌, ◌≤◌, ◌<◌}
use native.Mathlib.Nat.{pow-suc, one-le-pow, mul-le-mul_left, mul-le-mul_right, mul_assoc, mul_comm}
use native.Mathlib.Numerals.{add-one}
use native.Mathlib.Omega.{arith}
use borrow.Author.Tests.{le-leb, lt-leb, eqb-true, eqb-false}
use lib.Dec.{leb, eqb}
use lib.ListN.{length, get_or, take, drop, drop_of_length-le, length-take}
use lib.Seq.{drop-cons}
use Rattle.octets.specs.Octets.{Bytes}
use Rattle.utf8.specs.Characters.{tails_follow, number_with}

-- ---- the bytes past the first n do not matter

pub few : (n : ℕ) (s : Bytes) {t : Bytes} → t ≡ take n s → length t ≤ n
few n s e = rw e (rw length-take (omega arith))

pub taken_tails : (n : ℕ) (s : Bytes) → tails_follow n (take n s) ≡ tails_follow n s
unfolding tails_follow
taken_tails zero s = refl
taken_tails (suc n) [] = refl
taken_tails (suc n) (b ∷ s) = ap (λ (t : Bool). (leb 0x80 b && leb b 0xBF) && t) (taken_tails n s)

pub taken-number : (x n : ℕ) (s : Bytes) → number_with x n (take n s) ≡ number_with x n s
unfolding number_with
taken-number x zero s = refl
taken-number x (suc n) [] = refl
taken-number x (suc n) (b ∷ s) = taken-number (x * 64 + b % 64) n s

-- ---- the end comes first

no_tails : (s : Bytes) → tails_follow 0 s ≡ true
unfolding tails_follow
no_tails s = refl

pub cut_tails : (n : ℕ) (s : Bytes) (i : ℕ) → 0 < n → length s ≤ i → tails_follow n (drop i s) ≡ false
unfolding tails_follow
cut_tails zero s i p h = absurd (omega arith)
cut_tails (suc n) s i p h = rw (drop_of_length-le s h)

-- all that are there are tails, and whether they are enough decides
pub enough_tails : (n i : ℕ) (s : Bytes) → i ≡ length s → i ≤ n → eqb (length s) n ≡ tails_follow (n - i) (drop i s)
enough_tails n i s e h = by (eqb (length s) n) refl
  where
    by : (t : Bool) → eqb (length s) n ≡ t → t ≡ tails_follow (n - i) (drop i s)
    by true q = let none : n - i ≡ 0 = omega (arith, eqb-true (length s) n q) in rw none (sym (no_tails (drop i s)))
    by false q =
        let more : length s ≢ n = λ p. eqb-false (length s) n q p in
        sym (cut_tails (n - i) s i (omega arith) (omega arith))

pub cut-number : (x n : ℕ) (s : Bytes) (i : ℕ) → length s ≤ i → number_with x n (drop i s) ≡ x
unfolding number_with
cut-number x zero s i h = refl
cut-number x (suc n) s i h = rw (drop_of_length-le s h)

-- ---- one byte

low_first : (n b : ℕ) (s : Bytes) → 0 < n → b < 0x80 → tails_follow n (b ∷ s) ≡ false
unfolding tails_follow
low_first zero b s p h = absurd (omega arith)
low_first (suc n) b s p h = rw (lt-leb 0x80 b h)

high-first : (n b : ℕ) (s : Bytes) → 0 < n → 0x80 ≤ b → 0xBF < b → tails_follow n (b ∷ s) ≡ false
unfolding tails_follow
high-first zero b s p h k = absurd (omega arith)
high-first (suc n) b s p h k = rw (le-leb 0x80 b h, lt-leb b 0xBF k)

tail-first : (n b : ℕ) (s : Bytes) → 0 < n → 0x80 ≤ b → b ≤ 0xBF → tails_follow (n - 1) s ≡ tails_follow n (b ∷ s)
unfolding tails_follow
tail-first zero b s p h k = absurd (omega arith)
tail-first (suc n) b s p h k = let e : suc n - 1 ≡ n = omega arith in rw (e, le-leb 0x80 b h, le-leb b 0xBF k)

number-first : (x n b : ℕ) (s : Bytes) → 0 < n → number_with (x * 64 + b % 64) (n - 1) s ≡ number_with x n (b ∷ s)
unfolding number_with
number-first x zero b s p = absurd (omega arith)
number-first x (suc n) b s p = let e : suc n - 1 ≡ n = omega arith in rw e

module _ (n : ℕ) (s : Bytes) (i : ℕ) (some : 0 < n) (inside : i < length s) where
  pub low-tail : get_or s i 0 < 0x80 → tails_follow n (drop i s) ≡ false
  low-tail h = rw (drop-cons s i 0 inside) (low_first n (get_or s i 0) (drop (suc i) s) some h)

  pub high-tail : 0x80 ≤ get_or s i 0 → 0xBF < get_or s i 0 → tails_follow n (drop i s) ≡ false
  high-tail h k = rw (drop-cons s i 0 inside) (high-first n (get_or s i 0) (drop (suc i) s) some h k)

  pub right_tail : 0x80 ≤ get_or s i 0 → get_or s i 0 ≤ 0xBF → tails_follow (n - 1) (drop (i + 1) s) ≡ tails_follow n (drop i s)
  right_tail h k = rw (add-one, drop-cons s i 0 inside) (tail-first n (get_or s i 0) (drop (suc i) s) some h k)

  pub six_bits : (x : ℕ) → number_with (x * 64 + get_or s i 0 % 64) (n - 1) (drop (i + 1) s) ≡ number_with x n (drop i s)
  six_bits x = rw (add-one, drop-cons s i 0 inside) (number-first x n (get_or s i 0) (drop (suc i) s) some)

-- ---- the number stays small: with n bytes to come there is room for them

pub record Room (x n : ℕ) : Type 0 where
  pub room : suc x * 64 ^ n ≤ 2 ^ 26

-- one byte is read
module _ (x n y : ℕ) (some : 0 < n) (low : y < 64) (r : Room x n) where
  power : 64 ^ n ≡ 64 ^ (n - 1) * 64
  power = let e : n ≡ suc (n - 1) = omega arith in rw (← e) at (pow-suc 64 (n - 1))

  -- six bits more, and then the other bytes
  spread : suc x * 64 * 64 ^ (n - 1) ≤ 2 ^ 26
  spread = rw (mul_assoc, mul_comm 64 (64 ^ (n - 1)), ← power) r.room

  pub fits : suc x * 64 ≤ 2 ^ 26
  fits = omega (arith, spread, mul-le-mul_left (suc x * 64) (one-le-pow (n - 1) 64 (omega arith)))

  pub next : Room (x * 64 + y) (n - 1)
  next = record { room = omega (arith, spread, mul-le-mul_right {m = suc (x * 64 + y)} {n = suc x * 64} (64 ^ (n - 1)) (omega arith)) }
