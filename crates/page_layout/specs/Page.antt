-- The fields of a page by their places (RFC 3533, 6; RULES.md, 3). A place past the end of the bytes reads as zero, so that
-- each field is there for any bytes. Assumes nothing.
use Rattle.std.specs.Prelude.{ℕ, ◌+◌, Bool, get_or, take, drop}
use Rattle.octets.specs.Octets.{Bytes, begins}
use Rattle.octets.specs.Numbers.{number}
use Rattle.page_layout.specs.declared.PageHeader.{PageHeader}
use Rattle.page_layout.specs.Places.{capture_pattern, version_at, flags_at, granule_at, serial_at, sequence_at}
use Rattle.page_layout.specs.Places.{checksum_at, count_at, lacing_at}

unfoldable pub has_capture : Bytes → Bool
has_capture b = begins capture_pattern b

abbrev pub version_of : Bytes → ℕ
version_of b = get_or b version_at 0

-- flags: 1 continued, 2 first, 4 last
unfoldable pub header_of : Bytes → PageHeader
header_of b = record {
  flags = get_or b flags_at 0;
  granule = number 8 b granule_at;
  serial = number 4 b serial_at;
  sequence = number 4 b sequence_at;
}

abbrev pub checksum_of : Bytes → ℕ
checksum_of b = number 4 b checksum_at

-- how many lacing values there are
abbrev pub count_of : Bytes → ℕ
count_of b = get_or b count_at 0

unfoldable pub lacing_of : Bytes → Bytes
lacing_of b = take (count_of b) (drop lacing_at b)

unfoldable pub body_of : Bytes → Bytes
body_of b = drop (lacing_at + count_of b) b
