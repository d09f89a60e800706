-- The page checksum of RFC 3533, section 6, field 7 (RULES.md, 3, refusal 4): the register of `page_crc_tables` over the
-- page's bytes, start 0, no final change. Assumes nothing.
use Rattle.std.specs.Prelude.{ℕ, ◌+◌, ◌-◌, [], ◌∷◌, ◌++◌, length, take, drop, replicate}
use Rattle.octets.specs.Octets.{Bytes}
use Rattle.page_crc_tables.specs.Register.{byte}
use Rattle.page_layout.specs.Places.{checksum_at}

-- the register r after some bytes; from 0 it is their checksum
unfoldable pub crc : ℕ → Bytes → ℕ
crc r [] = r
crc r (b ∷ s) = crc (byte r b) s

-- where the checksum field of a page ends
abbrev pub checksum_end : ℕ
checksum_end = checksum_at + 4

-- a page with its checksum field as zeros; of a shorter list, those of the field's four bytes that it has
unfoldable pub blank : Bytes → Bytes
blank p = take checksum_at p ++ take (length p - checksum_at) (replicate 4 0) ++ drop checksum_end p

-- a page's checksum
unfoldable pub page_crc : Bytes → ℕ
page_crc p = crc 0 (blank p)
