-- Tables of what a byte adds to the register, and what they are to hold. Assumes nothing.
use Rattle.std.specs.Prelude.{◌≡◌, List, ℕ, suc, ◌+◌, ◌*◌, ◌/◌, ◌%◌, ◌^◌, ◌<◌, get_or}
use Rattle.std.specs.Int.Bits.{bit_xor}
use Rattle.page_crc_tables.specs.Register.{bits}

-- e j b is what a byte b in the register's top becomes in j + 1 bytes
pub record Right (e : ℕ → ℕ → ℕ) : Type 0 where
  pub entry : (j b : ℕ) → j < 16 → b < 256 → e j b ≡ bits (8 * suc j) (b * 2 ^ 24)

-- the entries in sixteen tables of bytes
unfoldable pub entry_in : List ℕ → ℕ → ℕ → ℕ
entry_in t j b = get_or t (j * 256 + b) 0

-- each entry of sixteen tables of half bytes, 16 high halves and 16 low ones each: what the half in the register's top becomes
-- in j + 1 bytes
pub record RightHalves (t : List ℕ) : Type 0 where
  pub high : (j h : ℕ) → j < 16 → h < 16 → get_or t (j * 32 + h) 0 ≡ bits (8 * suc j) (h * 2 ^ 28)
  pub low : (j l : ℕ) → j < 16 → l < 16 → get_or t (j * 32 + 16 + l) 0 ≡ bits (8 * suc j) (l * 2 ^ 24)

-- what a byte adds by such tables: the xor of what its halves add
unfoldable pub half_entry_in : List ℕ → ℕ → ℕ → ℕ
half_entry_in t j b = bit_xor (get_or t (j * 32 + b / 16) 0) (get_or t (j * 32 + 16 + b % 16) 0)
