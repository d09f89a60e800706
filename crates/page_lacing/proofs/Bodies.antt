-- A body and its lacing values, by the test that they are those of a page. Assumes nothing.
use mathlib.Core.Path.{◌≡◌}
use mathlib.Core.Bool.{true}
use Prim.Native.Nat.{◌≤◌}
use borrow.Author.Tests.{le-leb, leb-true, eq-eqb, eqb-true}
use lib.Dec.{leb}
use lib.ListN.{length}
use Rattle.octets.specs.Octets.{Bytes, total}
use Rattle.octets.proofs.Tests.{both}
use Rattle.page_lacing.specs.Lacing.{is_body}

module _ (l b : Bytes) where
  pub is_body_lem : length l ≤ 255 → total l ≡ length b → is_body l b ≡ true
  unfolding is_body
  is_body_lem few sum = rw (le-leb (length l) 255 few, eq-eqb (total l) (length b) sum)

  pub body-few : is_body l b ≡ true → length l ≤ 255
  unfolding is_body
  body-few e = leb-true (length l) 255 (both (leb (length l) 255) _ e).0

  pub body-sum : is_body l b ≡ true → total l ≡ length b
  unfolding is_body
  body-sum e = eqb-true (total l) (length b) (both (leb (length l) 255) _ e).1
