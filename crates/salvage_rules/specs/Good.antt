-- The good pages of a buffer, and those of the stream that is salvaged (RULES.md, 16). Assumes nothing.
use Rattle.std.specs.Prelude.{ℕ, zero, suc, ◌+◌, ◌-◌, Bool, List, [], ◌∷◌, eqb, take}
use Rattle.std.proofs.Math.Option.{Option, none, some}
use Rattle.octets.specs.Pick.{pick}
use Rattle.octets.specs.Octets.{Bytes}
use Rattle.page_size.specs.Size.{size_of}
use Rattle.page_writer.specs.Writing.{page_size}
use Rattle.page_flags.specs.Flags.{is_first_page}
use Rattle.stream.specs.Page.{Page, page_of}
use Rattle.salvage_search.specs.Search.{starts_page}

-- a page, and where it starts
pub record Good : Type 0 where
  pub place : ℕ
  pub page : Page

-- where it ends
abbrev pub end_of : Good → ℕ
end_of g = g.place + page_size g.page.lacing g.page.body

-- the page at the front of s
abbrev pub good_at : ℕ → Bytes → Good
good_at at s = record { place = at; page = page_of (take (size_of s) s) }

-- s is what the buffer has from the place `at` on; its first `inside` bytes lie in a good page and are not looked at
unfoldable pub good_from : (Bytes → ℕ) → ℕ → ℕ → Bytes → List Good
good_from crc inside at [] = []
good_from crc (suc inside) at (x ∷ s) = good_from crc inside (suc at) s
good_from crc zero at (x ∷ s) =
    pick (starts_page crc (x ∷ s))
    (good_at at (x ∷ s) ∷ good_from crc (size_of (x ∷ s) - 1) (suc at) s)
    (good_from crc 0 (suc at) s)

abbrev pub good_pages : (Bytes → ℕ) → Bytes → List Good
good_pages crc b = good_from crc 0 0 b

-- the serial of the first page with a first-page mark
unfoldable pub serial_in : List Good → Option ℕ
serial_in [] = none
serial_in (g ∷ gs) = pick (is_first_page g.page.header.flags) (some g.page.header.serial) (serial_in gs)

abbrev pub has_serial : ℕ → Good → Bool
has_serial n g = eqb g.page.header.serial n

unfoldable pub of_serial : ℕ → List Good → List Good
of_serial n [] = []
of_serial n (g ∷ gs) = pick (has_serial n g) (g ∷ of_serial n gs) (of_serial n gs)

-- its pages; none where no page has the mark
abbrev pub of_stream : Option ℕ → List Good → List Good
of_stream none gs = []
of_stream (some n) gs = of_serial n gs
