-- Lists of bytes: their sum, how they begin, and a copy into a lent buffer. A byte is a number below 256. Assumes nothing.
use Rattle.std.specs.Prelude.{ℕ, ◌+◌, ◌≤◌, ◌<◌, ◌≡◌, Bool, true, false, ◌&&◌, List, [], ◌∷◌, leb, eqb, length, get_or}
use Rattle.std.proofs.Math.Seq.{paste}
use Rattle.octets.specs.Pick.{pick}

abbrev pub Bytes : Type 0
Bytes = List ℕ

-- each of them is below 256
pub record Octets (s : Bytes) : Type 0 where
  pub below : (i : ℕ) → get_or s i 0 < 256

-- a byte x as a wider number r
pub record Widened (x r : ℕ) : Type 0 where
  pub same : r ≡ x
  pub most : r ≤ 255

unfoldable pub total : List ℕ → ℕ
total [] = 0
total (n ∷ s) = n + total s

-- the bytes s begin with p
unfoldable pub begins : Bytes → Bytes → Bool
begins [] s = true
begins (a ∷ p) [] = false
begins (a ∷ p) (b ∷ s) = eqb a b && begins p s

-- the buffer d after all of s was copied to place `at`; a copy that does not fit changes nothing
unfoldable pub copied : Bytes → ℕ → Bytes → Bytes
copied d at s = pick (leb (at + length s) (length d)) (paste d at s (length s)) d
