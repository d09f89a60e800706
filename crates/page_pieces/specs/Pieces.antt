-- What is told of the pieces of a lacing list (RFC 3533, 5 and 6; RULES.md, 3). Assumes nothing.
use Rattle.std.specs.Prelude.{◌-◌, ◌≡◌, ◌++◌, length, take, replicate}
use Rattle.octets.specs.Octets.{Bytes}
use Rattle.page_lacing.specs.Lacing.{ended, unfinished}
use Rattle.page_pieces.specs.declared.Pieces.{Pieces}

-- the answer for a lacing list: places past the number of packets are zero. A page has at most 255 values; of a longer
-- list the first 255 count
pub record PiecesAre (r : Pieces) (l : Bytes) : Type 0 where
  pub count : r.count ≡ length (ended (take 255 l))
  pub lengths : r.lengths ≡ ended (take 255 l) ++ replicate (255 - length (ended (take 255 l))) 0
  pub unfinished : r.unfinished ≡ unfinished (take 255 l)
