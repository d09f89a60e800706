-- Where the fields of a page are (RFC 3533, 6; RULES.md, 3). Assumes nothing.
use Rattle.std.specs.Prelude.{ℕ, [], ◌∷◌}
use Rattle.octets.specs.Octets.{Bytes}

-- the capture pattern: "OggS", the first bytes of every page
abbrev pub capture_pattern : Bytes
capture_pattern = 0x4f ∷ 0x67 ∷ 0x67 ∷ 0x53 ∷ []

abbrev pub version_at : ℕ
version_at = 4

abbrev pub flags_at : ℕ
flags_at = 5

abbrev pub granule_at : ℕ
granule_at = 6

abbrev pub serial_at : ℕ
serial_at = 14

abbrev pub sequence_at : ℕ
sequence_at = 18

abbrev pub checksum_at : ℕ
checksum_at = 22

-- the number of lacing values
abbrev pub count_at : ℕ
count_at = 26

-- the lacing values, after all fields of one length
abbrev pub lacing_at : ℕ
lacing_at = 27
