-- The images of an escaped text, one by one. Assumes nothing.
use mathlib.Core.Path.{◌≡◌, refl, ap}
use mathlib.Core.Bool.{Bool, true, false, ◌&&◌}
use mathlib.Core.Logic.{◌⊎◌, inl, inr, ⊎_elim}
use mathlib.Core.List.{[], ◌∷◌, ◌++◌}
use Prim.Native.Nat.{ℕ, zero, suc, ◌+◌, ◌-◌, ◌*◌, ◌%◌, ◌≤◌, ◌<◌}
use native.Mathlib.Omega.{arith}
use borrow.Author.Tests.{leb-true}
use lib.Dec.{leb}
use Rattle.octets.specs.Octets.{Bytes, Octets}
use Rattle.octets.proofs.Parts.{octets-tail}
use Rattle.octets.proofs.Tests.{both}
use Rattle.utf8.specs.Characters.{character_length, lead_bits, tails_follow, number_with, number_of, right_character, character_of}
use Rattle.utf8.proofs.Characters.{some_bytes}
use Rattle.text_escape.specs.Hidden.{is_hidden}
use Rattle.text_escape.specs.Escape.{escape_of, image_of, is_shown, shown_length, escaped_from}

-- the character that begins with b is shown
pub record Shown (b : ℕ) (s : Bytes) : Type 0 where
  pub right : right_character b s ≡ true
  pub seen : is_hidden (number_of b s) ≡ false
  pub size : shown_length b s ≡ character_length b

zero-hidden : is_hidden 0 ≡ true
unfolding is_hidden
zero-hidden = refl

shown_or_not : (b : ℕ) (s : Bytes) → (shown_length b s ≡ 0) ⊎ Shown b s
unfolding shown_length character_of
shown_or_not b s = by (right_character b s) (is_hidden (number_of b s)) refl refl
  where
    by : (r h : Bool) → right_character b s ≡ r → is_hidden (number_of b s) ≡ h → (shown_length b s ≡ 0) ⊎ Shown b s
    by false h e f = inl (rw (e, zero-hidden))
    by true true e f = inl (rw (e, f))
    by true false e f = inr (record { right = e; seen = f; size = rw (e, f) })

-- ---- the text after each kind of byte

pub at_end_lem : (k : ℕ) → escaped_from k [] ≡ []
unfolding escaped_from
at_end_lem k = refl

pub past : (k b : ℕ) (s : Bytes) → escaped_from (suc k) (b ∷ s) ≡ b ∷ escaped_from k s
unfolding escaped_from
past k b s = let e : suc k - 1 ≡ k = omega arith in rw e

pub as_it_stands : (b : ℕ) (s : Bytes) → Shown b s → escaped_from 0 (b ∷ s) ≡ b ∷ escaped_from (character_length b - 1) s
unfolding escaped_from
as_it_stands b s w = rw w.size (by (character_length b) (some_bytes b s w.right))
  where
    by : (n : ℕ) → 1 ≤ n → image_of (is_shown n) b ++ escaped_from (n - 1) s ≡ b ∷ escaped_from (n - 1) s
    by zero h = absurd (omega arith)
    by (suc n) h = refl

pub in_escape : (b : ℕ) (s : Bytes) → shown_length b s ≡ 0 → escaped_from 0 (b ∷ s) ≡ escape_of b ++ escaped_from 0 s
unfolding escaped_from
in_escape b s e = rw e

-- ---- what holds of a text by its bytes: k of them go on in a character that is shown

follow : (b : ℕ) (s : Bytes) → Shown b s → tails_follow (character_length b - 1) s ≡ true
unfolding right_character
follow b s w = (both (tails_follow (character_length b - 1) s) _ (both (leb 1 (character_length b)) _ w.right).1).0

module _ (P : ℕ → Bytes → Type 0)
    (none : (k : ℕ) → P k [])
    (tail : (k b : ℕ) (s : Bytes) → 0x80 ≤ b → b ≤ 0xBF → P k s → P (suc k) (b ∷ s))
    (char : (b : ℕ) (s : Bytes) → Shown b s → P (character_length b - 1) s → P 0 (b ∷ s))
    (esc : (b : ℕ) (s : Bytes) → b < 256 → shown_length b s ≡ 0 → P 0 s → P 0 (b ∷ s)) where
  from : (k : ℕ) (s : Bytes) → tails_follow k s ≡ true → Octets s → P k s
  unfolding tails_follow
  from k [] t o = none k
  from (suc k) (b ∷ s) t o =
      let here = both (leb 0x80 b && leb b 0xBF) (tails_follow k s) t in
      let range = both (leb 0x80 b) (leb b 0xBF) here.0 in
      tail k b s (leb-true 0x80 b range.0) (leb-true b 0xBF range.1) (from k s here.1 (octets-tail o))
  from zero (b ∷ s) t o =
      ⊎_elim
      (λ e. esc b s (o.below 0) e (from zero s refl (octets-tail o)))
      (λ w. char b s w (from (character_length b - 1) s (follow b s w) (octets-tail o)))
      (shown_or_not b s)

  pub by_images : (s : Bytes) → Octets s → P 0 s
  unfolding tails_follow
  by_images s o = from 0 s refl o

-- ---- a character that is shown is the same character there

tails_same : (n : ℕ) (s : Bytes) → tails_follow n (escaped_from n s) ≡ tails_follow n s
unfolding tails_follow
tails_same zero s = refl
tails_same (suc n) [] = rw (at_end_lem (suc n))
tails_same (suc n) (b ∷ s) = rw (past n b s) (ap (λ (t : Bool). (leb 0x80 b && leb b 0xBF) && t) (tails_same n s))

number_same : (x n : ℕ) (s : Bytes) → number_with x n (escaped_from n s) ≡ number_with x n s
unfolding number_with
number_same x zero s = refl
number_same x (suc n) [] = rw (at_end_lem (suc n))
number_same x (suc n) (b ∷ s) = rw (past n b s) (number_same (x * 64 + b % 64) n s)

pub number-there : (b : ℕ) (s : Bytes) → number_of b (escaped_from (character_length b - 1) s) ≡ number_of b s
number-there b s = number_same (lead_bits b) (character_length b - 1) s

pub right_there : (b : ℕ) (s : Bytes) → right_character b (escaped_from (character_length b - 1) s) ≡ right_character b s
unfolding right_character
right_there b s = rw (tails_same (character_length b - 1) s, number-there b s)
