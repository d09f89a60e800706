-- The pieces of a lacing list: a value of 255 goes on, a smaller one ends a packet (RFC 3533, 5 and 6; RULES.md, 3). Assumes
-- nothing.
use Rattle.std.specs.Prelude.{ℕ, ◌+◌, ◌≤◌, ◌≡◌, Bool, ◌&&◌, List, [], ◌∷◌, ltb, leb, eqb, length, take, drop}
use Rattle.octets.specs.Pick.{pick}
use Rattle.octets.specs.Octets.{Bytes, total}

-- the lengths of the packets that end here, in order; n bytes belong to values already read, all of them 255
unfoldable pub ended_from : ℕ → Bytes → List ℕ
ended_from n [] = []
ended_from n (v ∷ l) = pick (ltb v 255) ((n + v) ∷ ended_from 0 l) (ended_from (n + v) l)

-- the bytes after them, of a packet that goes on
unfoldable pub unfinished_from : ℕ → Bytes → ℕ
unfinished_from n [] = n
unfinished_from n (v ∷ l) = pick (ltb v 255) (unfinished_from 0 l) (unfinished_from (n + v) l)

abbrev pub ended : Bytes → List ℕ
ended l = ended_from 0 l

abbrev pub unfinished : Bytes → ℕ
unfinished l = unfinished_from 0 l

-- ---- the body cut by the lacing values

-- the pieces that end a packet here, in order, and the bytes after them
pub record Cut : Type 0 where
  pub whole : List Bytes
  pub rest : Bytes

unfoldable pub cut_from : ℕ → Bytes → Bytes → Cut
cut_from n [] body = record { whole = []; rest = take n body }
cut_from n (v ∷ l) body =
    pick (ltb v 255)
    (record { whole = take (n + v) body ∷ (cut_from 0 l (drop (n + v) body)).whole; rest = (cut_from 0 l (drop (n + v) body)).rest })
    (cut_from (n + v) l body)

abbrev pub cut : Bytes → Bytes → Cut
cut l body = cut_from 0 l body

-- r is the sum of the values; a page has at most 255 of them: of a longer list the first 255 count
pub record Summed (l : Bytes) (r : ℕ) : Type 0 where
  pub sum : r ≡ total (take 255 l)
  pub most : r ≤ 65025

-- lacing values that a page can have, and a body of as many bytes as they say
unfoldable pub is_body : Bytes → Bytes → Bool
is_body l body = leb (length l) 255 && eqb (total l) (length body)
