-- The ways of telling a page's extent, by its tests. Assumes nothing.
use mathlib.Core.Path.{◌≡◌}
use mathlib.Core.Bool.{true, false}
use Prim.Native.Nat.{ℕ, ◌+◌, ◌≤◌, ◌<◌}
use borrow.Author.Tests.{lt-ltb, le-ltb}
use lib.ListN.{length}
use Rattle.octets.specs.Octets.{Bytes}
use Rattle.page_layout.specs.Places.{lacing_at}
use Rattle.page_layout.specs.Page.{has_capture, count_of}
use Rattle.page_size.specs.Size.{size_of}
use Rattle.page_size.specs.Extent.{ends_at, unknown, no_start, extent_in}

module _ (s : Bytes) (at : ℕ) where
  pub short-header : length s < lacing_at → extent_in s at ≡ unknown
  unfolding extent_in
  short-header h = rw (lt-ltb (length s) lacing_at h)

  pub no_page_lem : lacing_at ≤ length s → has_capture s ≡ false → extent_in s at ≡ no_start
  unfolding extent_in
  no_page_lem h n = rw (le-ltb (length s) lacing_at h, n)

  pub short-lacing : lacing_at ≤ length s → has_capture s ≡ true → length s < lacing_at + count_of s → extent_in s at ≡ unknown
  unfolding extent_in
  short-lacing h y l = rw (le-ltb (length s) lacing_at h, y, lt-ltb (length s) (lacing_at + count_of s) l)

  pub ends_at_lem : lacing_at ≤ length s → has_capture s ≡ true → lacing_at + count_of s ≤ length s → extent_in s at ≡ ends_at (at + size_of s)
  unfolding extent_in
  ends_at_lem h y l = rw (le-ltb (length s) lacing_at h, y, le-ltb (length s) (lacing_at + count_of s) l)
