-- Laws of the checksum for other crates to cite; each is proved in the module of proofs/ that its comment names.
-- Assumes nothing.
use Rattle.std.specs.Prelude.{◌≡◌, ◌++◌, ℕ, ◌≤◌, ◌<◌, ◌^◌, length, take, drop}
use Rattle.octets.specs.Octets.{Bytes, Octets}
use Rattle.page_crc_tables.specs.Table.{Right}
use Rattle.page_layout.specs.Places.{checksum_at}
use Rattle.page_crc.specs.Crc.{checksum_end, crc, blank, page_crc}
use Rattle.page_crc.specs.Sliced.{sliced, page_sliced}

-- the bytes of two lists one after the other (Register)
abbrev pub CrcAppend : Type 0
CrcAppend = (r : ℕ) (s t : Bytes) → crc r (s ++ t) ≡ crc (crc r s) t

-- a checksum has 32 bits, whatever the list holds (Register)
abbrev pub CrcFits : Type 0
CrcFits = (s : Bytes) → crc 0 s < 2 ^ 32

-- and so has a page's (Page)
abbrev pub PageCrcFits : Type 0
PageCrcFits = (p : Bytes) → page_crc p < 2 ^ 32

-- the page p with f in the place of its checksum field
abbrev pub with_field : Bytes → Bytes → Bytes
with_field p f = take checksum_at p ++ f ++ drop checksum_end p

-- what is in the checksum field is not looked at (Page)
abbrev pub BlankSame : Type 0
BlankSame = (p f : Bytes) → checksum_end ≤ length p → length f ≡ 4 → blank (with_field p f) ≡ blank p

-- so that a page has one checksum whatever its field holds (Page)
abbrev pub PageCrcSame : Type 0
PageCrcSame = (p f : Bytes) → checksum_end ≤ length p → length f ≡ 4 → page_crc (with_field p f) ≡ page_crc p

-- with the right entries slicing gives the checksum (Slice)
abbrev pub SlicedRight : Type 0
SlicedRight = (e : ℕ → ℕ → ℕ) → Right e → (s : Bytes) → Octets s → (r : ℕ) → r < 2 ^ 32 → sliced e r s ≡ crc r s

-- and a page's checksum (Page)
abbrev pub PageSlicedRight : Type 0
PageSlicedRight = (e : ℕ → ℕ → ℕ) → Right e → (p : Bytes) → Octets p → page_sliced e p ≡ page_crc p
