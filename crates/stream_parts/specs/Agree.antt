-- When two readers agree, each with its own carry buffer: all that decides is equal, and so are the samples still to skip. The
-- totals have no part in it (RULES.md, 19). Assumes nothing.
use Rattle.std.specs.Prelude.{◌≡◌, ℕ, Bool, true, ◌&&◌, List, [], ◌∷◌, length, take, ◌==◌, nat_le, slice_index}
use Rattle.octets.specs.Octets.{Bytes, begins}
use Rattle.stream.specs.Feed.{Reader}
use Rattle.stream.specs.SameAnswers.{CoresAgree}

-- c and d are the carry buffers of r and o; past the held count they are free
pub record Agree (r o : Reader) (c d : Bytes) : Type 0 where
  pub cores : CoresAgree r o c d
  pub skip : o.tally.skip ≡ r.tally.skip

-- ---- of readers in sixteen numbers

-- the numbers at these places are equal
unfoldable pub equal_at : List ℕ → List ℕ → List ℕ → Bool
equal_at [] a b = true
equal_at (i ∷ is) a b = slice_index a i == slice_index b i && equal_at is a b

-- phase, unfinished packet, held bytes, position, granule position, serial, sequence due, streams, pre-skip, samples still to
-- skip
abbrev pub compared : List ℕ
compared = 0 ∷ 1 ∷ 2 ∷ 3 ∷ 4 ∷ 5 ∷ 6 ∷ 7 ∷ 8 ∷ 9 ∷ []

-- both buffers have n bytes, and these are equal
unfoldable pub equal_bytes : ℕ → Bytes → Bytes → Bool
equal_bytes n c d = nat_le n (length c) && begins (take n c) d

-- the held bytes are as many as number 2 says
unfoldable pub agreeing : List ℕ → Bytes → List ℕ → Bytes → Bool
agreeing a c b d = equal_at compared a b && equal_bytes (slice_index a 2) c d
