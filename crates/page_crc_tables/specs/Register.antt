-- The register of the page checksum of RFC 3533, section 6, field 7 (RULES.md, 3): 32 bits, moved one bit at a time, high bit
-- first. Assumes nothing.
use Rattle.std.specs.Prelude.{ℕ, zero, suc, ◌*◌, ◌/◌, ◌%◌, ◌^◌}
use Rattle.std.specs.Int.Bits.{bit_xor}

-- the polynomial, where the bit that left the register is set
unfoldable pub poly : ℕ → ℕ
poly zero = 0
poly (suc n) = 0x04c11db7

-- one bit: the register moves left, and the polynomial goes in where a set bit left it
unfoldable pub bit : ℕ → ℕ
bit r = bit_xor (r * 2 % 2 ^ 32) (poly (r / 2 ^ 31))

-- the register after n bits
unfoldable pub bits : ℕ → ℕ → ℕ
bits zero r = r
bits (suc n) r = bits n (bit r)

-- one byte: it goes into the register's top, and eight bits follow
unfoldable pub byte : ℕ → ℕ → ℕ
byte r b = bits 8 (bit_xor r (b * 2 ^ 24))
