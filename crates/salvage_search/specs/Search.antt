-- Where the next page starts (RULES.md, 16): a page starts where 3 and 4 pass on the bytes that a page there would take. How a
-- page's checksum is worked out is a parameter. Assumes nothing.
use Rattle.std.specs.Prelude.{ℕ, suc, min, Bool, true, false, [], ◌∷◌, length, take, drop}
use Rattle.std.proofs.Math.Option.{Option, none, some}
use Rattle.octets.specs.Pick.{pick}
use Rattle.octets.specs.Octets.{Bytes}
use Rattle.refusal.specs.Told.{Told, gives, refuses}
use Rattle.page_layout.specs.declared.PageHeader.{PageHeader}
use Rattle.page_end.specs.End.{end_at}
use Rattle.page_reader.specs.Reading.{read_page}

abbrev pub is_good : Told PageHeader → Bool
is_good (gives h) = true
is_good (refuses n) = false

-- by where the page at the front of s would end
abbrev pub good_to : (Bytes → ℕ) → Bytes → Option ℕ → Bool
good_to crc s none = false
good_to crc s (some e) = is_good (read_page crc (take e s))

-- s begins with a whole page that has a right checksum
unfoldable pub starts_page : (Bytes → ℕ) → Bytes → Bool
starts_page crc s = good_to crc s (end_at s 0)

-- the first place at which one starts, or the end of them; s is what the buffer has from the place `at` on
unfoldable pub next_from : (Bytes → ℕ) → ℕ → Bytes → ℕ
next_from crc at [] = at
next_from crc at (x ∷ s) = pick (starts_page crc (x ∷ s)) at (next_from crc (suc at) s)

-- at or after `from`, which counts as the buffer's length where it is above it
unfoldable pub next_page : (Bytes → ℕ) → Bytes → ℕ → ℕ
next_page crc b from = next_from crc (min from (length b)) (drop from b)
