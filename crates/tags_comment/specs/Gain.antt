-- The gain in a comment's value (RFC 7845, 5.2.1; RULES.md, 5, refusal 21): an optional sign and digits, at least one digit,
-- at most 6 characters in all, from -32768 to 32767. Assumes nothing.
use Rattle.std.specs.Prelude.{ℕ, ◌+◌, ◌-◌, ◌*◌, ◌≤◌, ◌≡◌, Bool, true, not, ◌&&◌, ◌||◌, List, [], ◌∷◌, leb, eqb, ℤ, pos, neg_ℤ, length, get_or, drop}
use Rattle.octets.specs.Pick.{pick}
use Rattle.octets.specs.Octets.{Bytes}
use Rattle.refusal.specs.declared.Refusal.TheVariants.{BadGain}
use Rattle.refusal.specs.Checks.{Check, ◌when◌, first_of}
use Rattle.refusal.specs.Told.{Told, decided}
use Rattle.tags_comment.specs.Names.{has_name, value_of, all_within}

abbrev pub is_minus : Bytes → Bool
is_minus t = eqb (get_or t 0 0) 0x2d

-- "+" or "-" in front
abbrev pub is_signed : Bytes → Bool
is_signed t = eqb (get_or t 0 0) 0x2b || is_minus t

abbrev pub digits_of : Bytes → Bytes
digits_of t = pick (is_signed t) (drop 1 t) t

-- "0" to "9"
abbrev pub all_digits : Bytes → Bool
all_digits d = all_within 0x30 0x39 d

-- how many characters a gain has at most
abbrev pub most_characters : ℕ
most_characters = 6

-- digits that a gain may have
pub record FewDigits (d : Bytes) : Type 0 where
  pub digits : all_digits d ≡ true
  pub few : length d ≤ most_characters

-- the number that the digits write, those of x before them
unfoldable pub decimal : ℕ → Bytes → ℕ
decimal x [] = x
decimal x (b ∷ s) = decimal (x * 10 + (b - 0x30)) s

abbrev pub size_of : Bytes → ℕ
size_of t = decimal 0 (digits_of t)

-- the greatest number that may follow the sign
abbrev pub most_of : Bytes → ℕ
most_of t = pick (is_minus t) 32768 32767

unfoldable pub right_gain : Bytes → Bool
right_gain t =
    leb (length t) most_characters
    && (leb 1 (length (digits_of t)) && (all_digits (digits_of t) && leb (size_of t) (most_of t)))

unfoldable pub gain_of : Bytes → ℤ
gain_of t = pick (is_minus t) (neg_ℤ (pos (size_of t))) (pos (size_of t))

-- a comment whose value is a gain, whatever its name
unfoldable pub has_gain : Bytes → Bool
has_gain c = has_name c && right_gain (value_of c)

abbrev pub gain_checks : Bytes → List Check
gain_checks c = BadGain when not (has_gain c) ∷ []

unfoldable pub comment_gain : Bytes → Told ℤ
comment_gain c = decided (first_of (gain_checks c)) (gain_of (value_of c))
