-- What the code of digits needs, and what it counts. Assumes nothing.
use Rattle.std.specs.Prelude.{ℕ, ◌+◌, ◌≤◌, ◌<◌, ◌≡◌, length}
use Rattle.octets.specs.Octets.{Bytes}
use Rattle.text_decimal.specs.Decimal.{decimal}

-- the digits of x, counted
pub record Counted (x r : ℕ) : Type 0 where
  pub digits : r ≡ length (decimal x)
  pub most : r ≤ 20

pub record HasThreeDigits (x : ℕ) : Type 0 where
  pub least : 100 ≤ x
  pub below : x < 1000

-- x is below a bound, and n bytes from place `at` on are in the buffer
pub record HasRoom (x bound : ℕ) (out : Bytes) (at n : ℕ) : Type 0 where
  pub below : x < bound
  pub room : at + n ≤ length out
