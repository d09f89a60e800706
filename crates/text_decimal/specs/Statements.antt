-- What is proved of numbers in decimal, in addition to the contracts. Assumes nothing.
use Rattle.std.specs.Prelude.{ℕ, ◌≤◌, ◌<◌, ◌≡◌, length, get_or}
use Rattle.octets.specs.Octets.{Bytes}
use Rattle.text_decimal.specs.Decimal.{decimal, number_read}

-- "0" to "9"
pub record IsDigit (b : ℕ) : Type 0 where
  pub least : 48 ≤ b
  pub most : b ≤ 57

-- each byte is a digit
pub record Digits (s : Bytes) : Type 0 where
  pub each : (i : ℕ) → i < length s → IsDigit (get_or s i 0)

-- s is how the number x is written: at least one digit, no leading zero, and read back it is x
pub record Writes (s : Bytes) (x : ℕ) : Type 0 where
  pub some : 1 ≤ length s
  pub digits : Digits s
  pub leading : 1 < length s → 48 < get_or s 0 0
  pub number : number_read s ≡ x

-- the digits of a number are its own, with no leading zero
abbrev pub DecimalRight : Type 0
DecimalRight = (x : ℕ) → Writes (decimal x) x

-- there is no other way to write it
abbrev pub DecimalOnly : Type 0
DecimalOnly = (s : Bytes) (x : ℕ) → Writes s x → s ≡ decimal x
