-- A signed number in decimal, and a gain in decibels (RULES.md, 13). Assumes nothing.
use Rattle.std.specs.Prelude.{ℕ, ◌*◌, ◌/◌, ◌%◌, ◌≤◌, ◌≡◌, [], ◌∷◌, ◌++◌, ℤ, pos, negsuc, nat_abs}
use Rattle.octets.specs.Octets.{Bytes}
use Rattle.text_put.specs.Marks.{tab, line_feed}
use Rattle.text_decimal.specs.Decimal.{decimal}
use Rattle.text_decimal.specs.Digits.{lowest}

-- r is the size of the number g, which has 16 bits
pub record Sized (g : ℤ) (r : ℕ) : Type 0 where
  pub same : r ≡ nat_abs g
  pub most : r ≤ 32768

-- "-" where the number is below zero
abbrev pub sign_of : ℤ → Bytes
sign_of (pos n) = []
sign_of (negsuc n) = 45 ∷ []

unfoldable pub signed_decimal : ℤ → Bytes
signed_decimal g = sign_of g ++ decimal (nat_abs g)

-- " dB"
abbrev pub unit : Bytes
unit = 32 ∷ 100 ∷ 66 ∷ []

-- a gain is a number of 256ths of a decibel (RFC 7845, 5.1), and 1/256 is 0.00390625: eight decimals are exact
unfoldable pub decibels : ℤ → Bytes
decibels g = sign_of g ++ decimal (nat_abs g / 256) ++ (46 ∷ []) ++ lowest 8 (nat_abs g % 256 * 390625) ++ unit

-- what ends the line of a gain
unfoldable pub decibels_end : ℤ → Bytes
decibels_end g = tab ++ decibels g ++ line_feed
