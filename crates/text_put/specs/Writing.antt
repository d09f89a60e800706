-- Writing a line into a lent buffer. Assumes nothing.
use Rattle.std.specs.Prelude.{ℕ, ◌+◌, ◌≡◌, leb, length}
use Rattle.octets.specs.Pick.{pick}
use Rattle.octets.specs.Octets.{Bytes, copied}

-- the place after s, copied to place `at` of the buffer d; `at` itself where s does not fit
unfoldable pub place_after : Bytes → ℕ → Bytes → ℕ
place_after d at s = pick (leb (at + length s) (length d)) (at + length s) at

-- the answer r, and the buffer from d at entry to `out` at exit: all of s from place `at` on and the rest of d, or,
-- where s does not fit, all of d
pub record Put (d : Bytes) (at : ℕ) (s : Bytes) (r : ℕ) (out : Bytes) : Type 0 where
  pub place : r ≡ place_after d at s
  pub output : out ≡ copied d at s

-- the same where s fits: what the private functions promise
pub record Laid (d : Bytes) (at : ℕ) (s : Bytes) (r : ℕ) (out : Bytes) : Type 0 where
  pub place : r ≡ at + length s
  pub output : out ≡ copied d at s
