-- What reading a number tells. Assumes nothing.
use Rattle.std.specs.Prelude.{ℕ, ◌^◌, ◌<◌, ◌≡◌}
use Rattle.octets.specs.Octets.{Bytes}
use Rattle.octets.specs.Numbers.{number}

-- r is the number in the n bytes of s from place `at` on
pub record NumberRead (n : ℕ) (s : Bytes) (at r : ℕ) : Type 0 where
  pub number : r ≡ number n s at
  pub below : r < 256 ^ n
