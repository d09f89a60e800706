-- What is proved of the pieces of a page, in addition to the contract. Assumes nothing.
use Rattle.std.specs.Prelude.{◌≡◌, List, [], ◌∷◌, ◌++◌, map, length}
use Rattle.octets.specs.Octets.{Bytes, total}
use Rattle.page_lacing.specs.Lacing.{ended, unfinished, cut}

-- the pieces one after the other
unfoldable pub joined : List Bytes → Bytes
joined [] = []
joined (b ∷ bs) = b ++ joined bs

-- the pieces have the lengths that the lacing values tell, and cover the body exactly
pub record Covers (l b : Bytes) : Type 0 where
  pub lengths : map length (cut l b).whole ≡ ended l
  pub left : length (cut l b).rest ≡ unfinished l
  pub body : joined (cut l b).whole ++ (cut l b).rest ≡ b

abbrev pub PiecesCover : Type 0
PiecesCover = (l b : Bytes) → total l ≡ length b → Covers l b
