-- What slicing by sixteen makes of bytes, whatever the entries are: e j b is what a byte b in the register's top, followed
-- by j bytes of its block, adds to the register. With the right entries (`page_crc_tables`) the value is the
-- checksum (Statements.antt). Assumes nothing.
use Rattle.std.specs.Prelude.{ℕ, zero, suc, ◌*◌, ◌-◌, ◌/◌, ◌%◌, ◌^◌, [], ◌∷◌, leb, length, take, drop, replicate}
use Rattle.std.specs.Int.Bits.{bit_xor}
use Rattle.octets.specs.Octets.{Bytes}
use Rattle.octets.specs.Pick.{pick}
use Rattle.page_layout.specs.Places.{checksum_at}
use Rattle.page_crc.specs.Crc.{checksum_end}

-- the register moved left by k bytes, zeros coming in
unfoldable pub moved : ℕ → ℕ → ℕ
moved x zero = x
moved x (suc k) = moved x k * 2 ^ 8 % 2 ^ 32

-- the register x after a block: its first byte meets the register's top, which gives the entry for the bytes that follow;
-- the rest of the register goes on
unfoldable pub block_of : (ℕ → ℕ → ℕ) → ℕ → Bytes → ℕ
block_of e x [] = x
block_of e x (b ∷ s) = bit_xor (block_of e (x * 2 ^ 8 % 2 ^ 32) s) (e (length s) (bit_xor (x / 2 ^ 24) b))

-- the size of the next block where n bytes are left
unfoldable pub size : ℕ → ℕ
size n = pick (leb 16 n) 16 (pick (leb 8 n) 8 (pick (leb 4 n) 4 (pick (leb 2 n) 2 1)))

-- the register r after n blocks; where no byte is left a block is empty
unfoldable pub blocks : (ℕ → ℕ → ℕ) → ℕ → ℕ → Bytes → ℕ
blocks e zero r s = r
blocks e (suc n) r s = blocks e n (block_of e r (take (size (length s)) s)) (drop (size (length s)) s)

-- the register r after all bytes of s: a block takes one at least, so there are no more blocks than bytes
unfoldable pub sliced : (ℕ → ℕ → ℕ) → ℕ → Bytes → ℕ
sliced e r s = blocks e (length s) r s

-- the register after the bytes of a page up to the end of its checksum field, zeros for the field
unfoldable pub head_sliced : (ℕ → ℕ → ℕ) → Bytes → ℕ
head_sliced e p = sliced e (sliced e 0 (take checksum_at p)) (replicate 4 0)

-- the register after all bytes of a page, or of fewer bytes, in three runs: before the checksum field, zeros for what there
-- is of the field, after it
unfoldable pub page_sliced : (ℕ → ℕ → ℕ) → Bytes → ℕ
page_sliced e p =
    sliced e (sliced e (sliced e 0 (take checksum_at p)) (take (length p - checksum_at) (replicate 4 0))) (drop checksum_end p)
