-- Where the page that starts at a place of a buffer would end (RFC 3533, 6; RULES.md, 3). The version and the checksum are not
-- looked at. Assumes nothing.
use Rattle.std.specs.Prelude.{ℕ, ◌+◌, not, ltb, length, drop}
use Rattle.octets.specs.Pick.{pick}
use Rattle.octets.specs.Octets.{Bytes}
use Rattle.page_layout.specs.Places.{lacing_at}
use Rattle.page_layout.specs.Page.{has_capture, count_of}
use Rattle.page_size.specs.declared.Extent.{Extent}
use Rattle.page_size.specs.declared.Extent.TheVariants.{Ends, Short, NoPage}
use Rattle.page_size.specs.Size.{size_of}

-- where a page would end
pub data Reach : Type 0 where
  -- at this place, in the buffer or past it
  ends_at : ℕ → Reach
  -- its header or its lacing values are not all there
  unknown : Reach
  -- no page starts here
  no_start : Reach

-- s is what the buffer has from the place `at` on
unfoldable pub extent_in : Bytes → ℕ → Reach
extent_in s at =
    pick (ltb (length s) lacing_at) unknown
    (pick (not (has_capture s)) no_start
    (pick (ltb (length s) (lacing_at + count_of s)) unknown
    (ends_at (at + size_of s))))

unfoldable pub page_extent : Bytes → ℕ → Reach
page_extent b at = extent_in (drop at b) at

-- what the code's answer tells
abbrev pub told_extent : Extent → Reach
told_extent (Ends e) = ends_at e
told_extent Short = unknown
told_extent NoPage = no_start
