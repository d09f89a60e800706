-- Laws of gain texts: their digits, the number, and its 16 bits. Assumes nothing.
use mathlib.Core.Path.{◌≡◌, refl, sym, ap, ◌∙◌}
use mathlib.Core.Bool.{Bool, true, false, ◌&&◌}
use Prim.Native.Nat.{ℕ, zero, suc, ◌+◌, ◌-◌, ◌*◌, ◌%◌, ◌^◌, ◌≤◌, ◌<◌}
use native.Mathlib.Nat.{pow-suc, pow-le-pow_right, lt_of_lt_of_le}
use native.Mathlib.Numerals.{add-one}
use native.Mathlib.Omega.{arith}
use borrow.Author.Tests.{lt-ltb, le-ltb, le-leb, lt-leb, leb-true}
use lib.Dec.{leb}
use lib.IntN.{pos, negsuc, neg_ℤ}
use lib.ListN.{length, get_or, take, drop, length-drop}
use lib.Seq.{drop-cons, take_all}
use mir.Syntax.{w16}
use mir.Val.{to_z}
use Rattle.octets.specs.Pick.{pick}
use Rattle.octets.specs.Octets.{Bytes}
use Rattle.octets.proofs.Tests.{both}
use Rattle.refusal.specs.declared.Refusal.TheVariants.{BadGain}
use Rattle.refusal.specs.Numbers.{number_of}
use Rattle.refusal.specs.Checks.{first_of}
use Rattle.refusal.specs.Told.{gives, refuses}
use Rattle.tags_comment.specs.Names.{equals_place}
use Rattle.tags_comment.specs.Gain.{is_minus, is_signed, digits_of, all_digits, most_characters, decimal, size_of, most_of, right_gain, gain_of, has_gain, comment_gain}

-- as many bytes as there are
pub all_after : (k : ℕ) (t : Bytes) → take (length t) (drop k t) ≡ drop k t
all_after k t = take_all (length t) (drop k t) (simp length-drop (omega arith))

-- ---- the number that digits write

module _ (d : Bytes) (i : ℕ) (inside : i < length d) where
  pub digit-more : (x : ℕ) → decimal (x * 10 + (get_or d i 0 - 0x30)) (drop (i + 1) d) ≡ decimal x (drop i d)
  unfolding decimal
  digit-more x = rw (add-one, drop-cons d i 0 inside)

-- i digits are below 10 ^ i
pub ten_more : (x i y : ℕ) → x < 10 ^ i → y ≤ 9 → x * 10 + y < 10 ^ (i + 1)
ten_more x i y h l = let e : 10 ^ (i + 1) ≡ 10 ^ i * 10 = rw add-one (pow-suc 10 i) in omega arith

pub room : {x i : ℕ} → x < 10 ^ i → i < 6 → x < 100000
room {x} {i} h l = lt_of_lt_of_le h (pow-le-pow_right {n = 10} (omega arith) {i = i} {j = 5} (omega arith))

-- ---- the 16 bits of a number with its sign

plus_bits : (n : ℕ) → n ≤ 32767 → to_z w16 n ≡ pos n
plus_bits n h = rw (lt-ltb n 32768 (omega arith))

minus_bits : (n : ℕ) → n ≤ 32768 → to_z w16 ((65536 - n) % 65536) ≡ neg_ℤ (pos n)
minus_bits zero h = refl
minus_bits (suc n) h =
    let small : (65536 - suc n) % 65536 ≡ 65536 - suc n = omega arith in
    let back : 65536 - suc (65536 - suc n) ≡ n = omega arith in
    rw (small, le-ltb (65536 - suc n) 32768 (omega arith)) (ap negsuc back)

-- ---- a gain text, with its digits d

pub too_long : (t : Bytes) → most_characters < length t → right_gain t ≡ false
unfolding right_gain
too_long t h = rw (lt-leb (length t) most_characters h)

module _ (t d : Bytes) (short : length t ≤ most_characters) (digits : d ≡ digits_of t) where
  pub no_digit : length d < 1 → right_gain t ≡ false
  unfolding right_gain
  no_digit h = rw (← digits, le-leb (length t) most_characters short, lt-leb 1 (length d) h)

  pub not-digits : 1 ≤ length d → all_digits d ≡ false → right_gain t ≡ false
  unfolding right_gain
  not-digits some e = rw (← digits, le-leb (length t) most_characters short, le-leb 1 (length d) some, e)

  pub size_decides : 1 ≤ length d → all_digits d ≡ true → right_gain t ≡ leb (decimal 0 d) (most_of t)
  unfolding right_gain
  size_decides some e = rw (← digits, le-leb (length t) most_characters short, le-leb 1 (length d) some, e)

  pub few-digits : length d ≤ most_characters
  few-digits = rw digits (by (is_signed t))
    where
      by : (b : Bool) → length (pick b (drop 1 t) t) ≤ most_characters
      by true = simp length-drop (omega arith)
      by false = short

-- the other way: what a right gain text has
module _ (t : Bytes) (right : right_gain t ≡ true) where
  pub is-short : length t ≤ most_characters
  unfolding right_gain
  is-short = leb-true (length t) most_characters (both (leb (length t) most_characters) _ right).0

  after-length : (leb 1 (length (digits_of t)) && (all_digits (digits_of t) && leb (size_of t) (most_of t))) ≡ true
  unfolding right_gain
  after-length = (both (leb (length t) most_characters) _ right).1

  after-count : (all_digits (digits_of t) && leb (size_of t) (most_of t)) ≡ true
  after-count = (both (leb 1 (length (digits_of t))) _ after-length).1

  pub has-digits : all_digits (digits_of t) ≡ true
  has-digits = (both (all_digits (digits_of t)) _ after-count).0

  size_fits : size_of t ≤ most_of t
  size_fits = leb-true (size_of t) (most_of t) (both (all_digits (digits_of t)) _ after-count).1

  -- n is its number
  module _ (n : ℕ) (number : n ≡ size_of t) where
    pub minus_fits : is_minus t ≡ true → n ≤ 32768
    minus_fits m = omega (arith, size_fits, ap {B = ℕ} (λ (b : Bool). pick b 32768 32767) m)

    pub plus_fits : is_minus t ≡ false → n ≤ 32767
    plus_fits m = omega (arith, size_fits, ap {B = ℕ} (λ (b : Bool). pick b 32768 32767) m)

    by_sign : (b : Bool) → is_minus t ≡ b → pick b (neg_ℤ (pos n)) (pos n) ≡ gain_of t
    unfolding gain_of
    by_sign b m = sym (ap (λ (b : Bool). pick b (neg_ℤ (pos (size_of t))) (pos (size_of t))) m ∙ ap (λ (k : ℕ). pick b (neg_ℤ (pos k)) (pos k)) (sym number))

    pub minus_gain : is_minus t ≡ true → to_z w16 ((65536 - n) % 65536) ≡ gain_of t
    minus_gain m = minus_bits n (minus_fits m) ∙ by_sign true m

    pub plus_gain : is_minus t ≡ false → to_z w16 n ≡ gain_of t
    plus_gain m = plus_bits n (plus_fits m) ∙ by_sign false m

-- ---- a comment, with the place p of its first "=" and its value v

module _ (c : Bytes) (p : ℕ) (place : p ≡ equals_place c) where
  pub without-equals : length c ≤ p → comment_gain c ≡ refuses (number_of BadGain)
  unfolding comment_gain has_gain first_of
  without-equals h = rw (← place, le-ltb p (length c) h)

  module _ (v : Bytes) (inside : p < length c) (value : v ≡ drop (p + 1) c) where
    value_there : has_gain c ≡ right_gain v
    unfolding has_gain
    value_there = rw (← place, lt-ltb p (length c) inside, value, add-one)

    pub no_gain : right_gain v ≡ false → comment_gain c ≡ refuses (number_of BadGain)
    unfolding comment_gain first_of
    no_gain e = rw (value_there, e)

    pub gain-there : right_gain v ≡ true → comment_gain c ≡ gives (gain_of v)
    unfolding comment_gain first_of
    gain-there e = rw (value_there, e, ← place, value, add-one)
