-- The places of the fields in an identification header (RFC 7845, 5.1; RFC 8486, 3; RULES.md, 4), and how long the header is.
-- Assumes nothing.
use Rattle.std.specs.Prelude.{ℕ, ◌+◌, Bool, [], ◌∷◌, leb}
use Rattle.octets.specs.Pick.{pick}
use Rattle.octets.specs.Octets.{Bytes}
use Rattle.limits.specs.Limits.{packet_max}
use Rattle.head_fields.specs.declared.Head.{Head}
use Rattle.head_families.specs.Families.{has_counts, index_count, matrix_length}

-- "OpusHead"
abbrev pub signature : Bytes
signature = 0x4f ∷ 0x70 ∷ 0x75 ∷ 0x73 ∷ 0x48 ∷ 0x65 ∷ 0x61 ∷ 0x64 ∷ []

abbrev pub version_place : ℕ
version_place = 8

abbrev pub channels_place : ℕ
channels_place = 9

abbrev pub preskip_place : ℕ
preskip_place = 10

abbrev pub rate_place : ℕ
rate_place = 12

abbrev pub gain_place : ℕ
gain_place = 16

abbrev pub family_place : ℕ
family_place = 18

-- ---- the table, which family 0 does not have: two counts, and indices or a matrix

abbrev pub streams_place : ℕ
streams_place = 19

abbrev pub coupled_place : ℕ
coupled_place = 20

abbrev pub indices_place : ℕ
indices_place = 21

-- family 3 has no indices
abbrev pub matrix_place : ℕ
matrix_place = indices_place

-- ---- lengths, by the family, the number of streams, that of coupled ones and that of channels

-- the bytes before the table
abbrev pub start_length : ℕ
start_length = 19

abbrev pub table_length : ℕ → ℕ → ℕ → ℕ → ℕ
table_length family streams coupled channels =
    pick (has_counts family) (2 + (index_count family channels + matrix_length family streams coupled channels)) 0

-- the fields together
abbrev pub head_length : ℕ → ℕ → ℕ → ℕ → ℕ
head_length family streams coupled channels = start_length + table_length family streams coupled channels

-- the fields fit in a packet
abbrev pub fits_packet : ℕ → Bool
fits_packet n = leb n packet_max

-- ---- of a record

abbrev pub used_count : Head → ℕ
used_count h = index_count h.family h.channels

abbrev pub matrix_size : Head → ℕ
matrix_size h = matrix_length h.family h.streams h.coupled h.channels

abbrev pub head_size : Head → ℕ
head_size h = head_length h.family h.streams h.coupled h.channels
