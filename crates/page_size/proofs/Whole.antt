-- What the bytes of a whole page hold, by the test that they are one. Assumes nothing.
use mathlib.Core.Path.{◌≡◌}
use mathlib.Core.Bool.{true, ◌&&◌}
use native.Mathlib.Omega.{arith}
use borrow.Author.Tests.{eqb-true}
use lib.Dec.{eqb}
use lib.ListN.{length, take, length-take, length-drop}
use Rattle.octets.specs.Octets.{Bytes, total}
use Rattle.octets.proofs.Tests.{both, equal-and}
use Rattle.octets.proofs.Beginnings.{begins-take}
use Rattle.page_layout.specs.Places.{capture_pattern}
use Rattle.page_layout.specs.Page.{has_capture, version_of, count_of, lacing_of, body_of}
use Rattle.page_size.specs.Size.{size_of, is_one_page}

pub capture : (p : Bytes) → has_capture p ≡ true → take (length capture_pattern) p ≡ capture_pattern
unfolding has_capture
capture p h = begins-take capture_pattern p h

-- the bytes of a whole page
module _ (p : Bytes) (one : is_one_page p ≡ true) where
  pub captured : (has_capture p ≡ true) × (eqb (version_of p) 0 && eqb (length p) (size_of p) ≡ true)
  unfolding is_one_page
  captured = both (has_capture p) _ one

  pub version-whole : (version_of p ≡ 0) × (eqb (length p) (size_of p) ≡ true)
  version-whole = equal-and _ _ _ captured.1

  pub whole : length p ≡ size_of p
  whole = eqb-true _ _ version-whole.1

  pub lacing-length : length (lacing_of p) ≡ count_of p
  unfolding size_of lacing_of
  lacing-length = let size = whole in simp (length-take, length-drop) (omega arith)

  pub body-length : length (body_of p) ≡ total (lacing_of p)
  unfolding size_of body_of
  body-length = let size = whole in simp length-drop (omega arith)
