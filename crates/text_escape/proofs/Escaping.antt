-- One byte more of a text as it is shown. Assumes nothing.
use mathlib.Core.Path.{◌≡◌, refl, sym, ap, ◌∙◌}
use mathlib.Core.Bool.{Bool, true, false}
use mathlib.Core.List.{[], ◌∷◌, ◌++◌}
use Prim.Native.Nat.{ℕ, zero, suc, ◌+◌, ◌-◌, ◌/◌, ◌%◌, ◌≤◌, ◌<◌}
use native.Mathlib.Numerals.{add-one}
use native.Mathlib.Omega.{arith}
use borrow.Author.Tests.{le-leb, lt-leb, leb-true, leb-false, eq-eqb, ne_eqb, lt-ltb}
use lib.Dec.{leb}
use lib.ListN.{length, get_or, drop, length-append, drop_of_length-le}
use lib.Seq.{drop-cons}
use Rattle.octets.specs.Octets.{Bytes}
use Rattle.utf8.specs.declared.Character.{Character}
use Rattle.utf8.specs.Characters.{character_of, character_at}
use Rattle.text_escape.specs.Escape.{backslash, hex_digit, escape_of, image_of, size_shown, shown_length, bytes_shown, is_shown, escaped_from}

-- ---- one byte

pub escape_backslash : (b : ℕ) → b ≡ backslash → escape_of b ≡ backslash ∷ backslash ∷ []
unfolding escape_of
escape_backslash b e = rw (eq-eqb b backslash e)

pub escape_other : (b h l : ℕ) → (b ≡ backslash → ⊥) → h ≡ hex_digit (b / 16) → l ≡ hex_digit (b % 16)
    → escape_of b ≡ backslash ∷ 0x78 ∷ h ∷ l ∷ []
unfolding escape_of
escape_other b h l n e f = rw (ne_eqb b backslash n, e, f)

pub shown : (n : ℕ) → 0 < n → is_shown n ≡ true
shown zero h = absurd (omega arith)
shown (suc n) h = refl

pub not-shown : (n : ℕ) → n ≡ 0 → is_shown n ≡ false
not-shown n e = rw e

-- ---- how many bytes are shown

pub shown-before : (k b : ℕ) (s : Bytes) → 0 < k → bytes_shown k b s ≡ k
shown-before zero b s h = absurd (omega arith)
shown-before (suc k) b s h = refl

shown-now : (k b : ℕ) (s : Bytes) → k ≤ 0 → bytes_shown k b s ≡ size_shown (character_of b s)
unfolding shown_length
shown-now zero b s h = refl
shown-now (suc k) b s h = absurd (omega arith)

here : (s : Bytes) (i : ℕ) → i < length s → character_at s i ≡ character_of (get_or s i 0) (drop (i + 1) s)
unfolding character_at
here s i h = rw (lt-ltb i (length s) h)

pub shown_at : (s : Bytes) (i k : ℕ) (c : Character) → i < length s → k ≤ 0 → c ≡ character_at s i
    → bytes_shown k (get_or s i 0) (drop (i + 1) s) ≡ size_shown c
shown_at s i k c inside none e = shown-now k (get_or s i 0) (drop (i + 1) s) none ∙ ap size_shown (sym (e ∙ here s i inside))

-- ---- the text from a place on

module _ (s : Bytes) (i k n : ℕ) (inside : i < length s) (e : n ≡ bytes_shown k (get_or s i 0) (drop (i + 1) s)) where
  pub one_more : escaped_from k (drop i s) ≡ image_of (is_shown n) (get_or s i 0) ++ escaped_from (n - 1) (drop (i + 1) s)
  unfolding escaped_from
  one_more =
      let split : drop i s ≡ get_or s i 0 ∷ drop (i + 1) s = rw add-one (drop-cons s i 0 inside) in
      rw (split, e)

pub no_more : (s : Bytes) (i k : ℕ) → length s ≤ i → escaped_from k (drop i s) ≡ []
unfolding escaped_from
no_more s i k h = rw (drop_of_length-le s h)

-- ---- room for a part, and for the others

module _ (a s : Bytes) (n : ℕ) where
  both : length (a ++ s) ≡ length a + length s
  both = length-append a s

  pub no_room : n < length a → leb (length (a ++ s)) n ≡ false
  no_room h = lt-leb (length (a ++ s)) n (omega (arith, both))

  pub room_behind : length a ≤ n → leb (length s) (n - length a) ≡ leb (length (a ++ s)) n
  room_behind h = by (leb (length (a ++ s)) n) refl
    where
      by : (t : Bool) → leb (length (a ++ s)) n ≡ t → leb (length s) (n - length a) ≡ t
      by true e = le-leb (length s) (n - length a) (omega (arith, both, leb-true (length (a ++ s)) n e))
      by false e = lt-leb (length s) (n - length a) (omega (arith, both, leb-false (length (a ++ s)) n e))
