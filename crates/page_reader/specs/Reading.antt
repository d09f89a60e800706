-- Reading a page (RULES.md, refusals 3 and 4; RFC 3533, 6). How a page's checksum is worked out is a parameter: the checksum
-- itself, or what lent tables give. Assumes nothing.
use Rattle.std.specs.Prelude.{ℕ, not, List, [], ◌∷◌, eqb}
use Rattle.octets.specs.Octets.{Bytes}
use Rattle.refusal.specs.declared.Refusal.TheVariants.{NotOnePage, WrongChecksum}
use Rattle.refusal.specs.Checks.{Check, ◌when◌, first_of}
use Rattle.refusal.specs.Told.{Told, gives, refuses, decided}
use Rattle.refusal.specs.Numbers.{number_of}
use Rattle.page_layout.specs.declared.PageHeader.{PageHeader}
use Rattle.page_layout.specs.Page.{header_of, checksum_of}
use Rattle.page_size.specs.Size.{is_one_page}

abbrev pub read_checks : (Bytes → ℕ) → Bytes → List Check
read_checks crc b = NotOnePage when not (is_one_page b) ∷ WrongChecksum when not (eqb (crc b) (checksum_of b)) ∷ []

-- the fields before the lacing values, or a refusal; the lacing values and the body are `lacing_of b` and `body_of b`
unfoldable pub read_page : (Bytes → ℕ) → Bytes → Told PageHeader
read_page crc b = decided (first_of (read_checks crc b)) (header_of b)
