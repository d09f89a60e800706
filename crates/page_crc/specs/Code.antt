-- What the private functions need and tell. Assumes nothing.
use Rattle.std.specs.Prelude.{ℕ, ◌+◌, ◌-◌, ◌/◌, ◌^◌, ◌<◌, ◌≡◌, get_or}
use Rattle.std.specs.Int.Bits.{bit_xor}
use Rattle.octets.specs.Octets.{Bytes}
use Rattle.page_crc.specs.Sliced.{moved}

-- b is what the byte at place at + k of s meets in the top of the register x
pub record Meets (x : ℕ) (s : Bytes) (at k b : ℕ) : Type 0 where
  pub byte : b ≡ bit_xor (moved x k / 2 ^ 24) (get_or s (at + k) 0)
  pub below : b < 256

-- the tables have an entry for the byte b and j bytes after it
pub record HasEntry (j b : ℕ) : Type 0 where
  pub table : j < 16
  pub byte : b < 256

-- v is what the byte of s adds that j of the m bytes from `at` on follow, by the entries e
abbrev pub Adds : (ℕ → ℕ → ℕ) → ℕ → Bytes → ℕ → ℕ → ℕ → ℕ → Type 0
Adds e x s at m j v = v ≡ e j (bit_xor (moved x (m - 1 - j) / 2 ^ 24) (get_or s (at + (m - 1 - j)) 0))
