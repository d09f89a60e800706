-- Whether the bytes are one page, by its tests. Assumes nothing.
use mathlib.Core.Path.{◌≡◌}
use mathlib.Core.Bool.{true, false}
use lib.Dec.{eqb}
use lib.ListN.{length}
use Rattle.octets.specs.Octets.{Bytes}
use Rattle.page_layout.specs.Page.{has_capture, version_of}
use Rattle.page_size.specs.Size.{size_of, is_one_page}

module _ (b : Bytes) where
  pub no_capture : has_capture b ≡ false → is_one_page b ≡ false
  unfolding is_one_page
  no_capture h = rw h

  pub other-version : has_capture b ≡ true → eqb (version_of b) 0 ≡ false → is_one_page b ≡ false
  unfolding is_one_page
  other-version h v = rw (h, v)

  pub size_decides : has_capture b ≡ true → eqb (version_of b) 0 ≡ true → is_one_page b ≡ eqb (length b) (size_of b)
  unfolding is_one_page
  size_decides h v = rw (h, v)
