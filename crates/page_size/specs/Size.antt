-- How long a page is, and when bytes are one (RFC 3533, 6; RULES.md, refusal 3). Assumes nothing.
use Rattle.std.specs.Prelude.{ℕ, ◌+◌, ◌≤◌, ◌≡◌, Bool, ◌&&◌, eqb, length}
use Rattle.octets.specs.Octets.{Bytes, total}
use Rattle.page_layout.specs.Places.{lacing_at}
use Rattle.page_layout.specs.Page.{has_capture, version_of, count_of, lacing_of}

-- how long the page is by its lacing values
unfoldable pub size_of : Bytes → ℕ
size_of b = lacing_at + count_of b + total (lacing_of b)

-- r is how long the page is
pub record Sized (b : Bytes) (r : ℕ) : Type 0 where
  pub size : r ≡ size_of b
  pub most : r ≤ 65307

-- exactly one whole page, of version 0
unfoldable pub is_one_page : Bytes → Bool
is_one_page b = has_capture b && (eqb (version_of b) 0 && eqb (length b) (size_of b))
