-- One character, from its parts; and characters that follow each other. Assumes nothing.
use mathlib.Core.Path.{◌≡◌, refl}
use mathlib.Core.Bool.{Bool, true, false, ◌&&◌}
use mathlib.Core.List.{[], ◌∷◌}
use Prim.Native.Nat.{ℕ, zero, suc, ◌+◌, ◌-◌, ◌≤◌, ◌<◌}
use native.Mathlib.Numerals.{add-one}
use native.Mathlib.Omega.{arith}
use borrow.Author.Tests.{le-leb, leb-true, lt-ltb, le-ltb}
use lib.Dec.{leb, eqb}
use lib.ListN.{length, get_or, drop, length-drop}
use lib.Seq.{drop-cons, drop-drop}
use Rattle.octets.specs.Pick.{pick}
use Rattle.octets.specs.Octets.{Bytes}
use Rattle.octets.proofs.Tests.{both}
use Rattle.utf8.specs.Characters.{leading_ones, character_length, lead_bits, tails_follow, number_with, right_number, right_character, length_at, no_character, character_of, character_at, utf8_from}

-- ---- a character that begins with b, whose length n and the rest s are known

module _ (b n : ℕ) (s : Bytes) (size : n ≡ character_length b) where
  pub no_length : n ≡ 0 → right_character b s ≡ false
  unfolding right_character
  no_length e = rw (← size, e)

  module _ (some : 1 ≤ n) where
    pub wrong_tails : tails_follow (n - 1) s ≡ false → right_character b s ≡ false
    unfolding right_character
    wrong_tails e = rw (← size, le-leb 1 n some, e)

    pub number_decides : tails_follow (n - 1) s ≡ true → right_character b s ≡ right_number n (number_with (lead_bits b) (n - 1) s)
    unfolding right_character
    number_decides e = rw (← size, le-leb 1 n some, e)

-- ---- characters that follow each other

behind : (k : ℕ) (s : Bytes) → utf8_from k s ≡ utf8_from 0 (drop k s)
unfolding utf8_from
behind zero s = refl
behind (suc k) [] = refl
behind (suc k) (b ∷ s) = behind k s

long_enough : (n : ℕ) (s : Bytes) → tails_follow n s ≡ true → n ≤ length s
unfolding tails_follow
long_enough zero s e = omega arith
long_enough (suc n) [] e = let z : ◌≡◌ {A = ℕ} 0 1 = cc in absurd (omega arith)
long_enough (suc n) (b ∷ s) e = omega (arith, long_enough n s (both (leb 0x80 b && leb b 0xBF) (tails_follow n s) e).1)

-- a right character has a byte at least, and does not pass the end
module _ (b : ℕ) (s : Bytes) (right : right_character b s ≡ true) where
  pub some_bytes : 1 ≤ character_length b
  unfolding right_character
  some_bytes = leb-true 1 (character_length b) (both _ _ right).0

  inside-all : character_length b - 1 ≤ length s
  unfolding right_character
  inside-all = long_enough (character_length b - 1) s (both (tails_follow (character_length b - 1) s) _ (both (leb 1 (character_length b)) _ right).1).0

-- what is known of the character at a place from its length n there, 0 where it is not right
module _ (s : Bytes) (i n : ℕ) (inside : i < length s) where
  abbrev lead : ℕ
  lead = get_or s i 0

  abbrev rest : Bytes
  rest = drop (i + 1) s

  split : drop i s ≡ lead ∷ rest
  split = rw add-one (drop-cons s i 0 inside)

  pub wrong-here : n ≡ length_at s i → n ≡ 0 → utf8_from 0 (drop i s) ≡ false
  unfolding utf8_from
  wrong-here e z = rw split (by (right_character lead rest) refl e)
    where
      by : (t : Bool) → right_character lead rest ≡ t → n ≡ pick t (character_length lead) 0
          → right_character lead rest && utf8_from (character_length lead - 1) rest ≡ false
      by true r e = absurd (omega (arith, some_bytes lead rest r))
      by false r e = rw r

  -- where it is right
  module _ (e : n ≡ length_at s i) (some : n ≡ 0 → ⊥) where
    pub is_right : (right_character lead rest ≡ true) × (n ≡ character_length lead)
    is_right = by (right_character lead rest) refl e
      where
        by : (t : Bool) → right_character lead rest ≡ t → n ≡ pick t (character_length lead) 0
            → (right_character lead rest ≡ true) × (n ≡ character_length lead)
        by true r e = (r, e)
        by false r e = absurd (some e)

    pub right_inside : i + n ≤ length s
    right_inside = omega (arith, is_right.1, some_bytes lead rest is_right.0, inside-all lead rest is_right.0, length-drop (i + 1) s)

    pub right_here : utf8_from 0 (drop (i + n) s) ≡ utf8_from 0 (drop i s)
    unfolding utf8_from
    right_here =
        let place : i + 1 + (n - 1) ≡ i + n = omega (arith, some_bytes lead rest is_right.0, is_right.1) in
        let on : drop (n - 1) rest ≡ drop (i + n) s = rw (drop-drop, place) in
        rw (split, is_right.0, ← is_right.1, behind (n - 1) rest, on)

-- ---- a character as its size and its number

pub length_most : (b : ℕ) → character_length b ≤ 4
unfolding character_length
length_most b = by (eqb (leading_ones b) 0) (eqb (leading_ones b) 2) (eqb (leading_ones b) 3) (eqb (leading_ones b) 4)
  where
    by : (j k l m : Bool) → pick j 1 (pick k 2 (pick l 3 (pick m 4 0))) ≤ 4
    by true k l m = omega arith
    by false true l m = omega arith
    by false false true m = omega arith
    by false false false true = omega arith
    by false false false false = omega arith

pub past_end : (s : Bytes) (i : ℕ) → length s ≤ i → character_at s i ≡ no_character
unfolding character_at
past_end s i h = rw (le-ltb i (length s) h)

module _ (s : Bytes) (i n : ℕ) (inside : i < length s) (e : n ≡ length_at s i) where
  pub none_here : n ≡ 0 → character_at s i ≡ no_character
  unfolding character_at character_of
  none_here z = rw (lt-ltb i (length s) inside) (by (right_character (lead s i n inside) (rest s i n inside)) refl e)
    where
      by : (t : Bool) → right_character (lead s i n inside) (rest s i n inside) ≡ t → n ≡ pick t (character_length (lead s i n inside)) 0
          → character_of (lead s i n inside) (rest s i n inside) ≡ no_character
      by true r e = absurd (omega (arith, some_bytes (lead s i n inside) (rest s i n inside) r))
      by false r e = rw r

  pub some-here : (some : n ≡ 0 → ⊥) (x b : ℕ) → b ≡ lead_bits (get_or s i 0) → x ≡ number_with b (n - 1) (drop (i + 1) s)
      → record { size = n; number = x } ≡ character_at s i
  unfolding character_at character_of
  some-here some x b f g =
      let r = is_right s i n inside e some in
      rw (lt-ltb i (length s) inside, r.0, g, f, r.1)
