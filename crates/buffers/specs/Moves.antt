-- A part of a lent buffer moved to its start. Assumes nothing.
use Rattle.std.specs.Prelude.{ℕ, ◌-◌, min, ◌≡◌, ◌++◌, length, take, drop}
use Rattle.octets.specs.Octets.{Bytes}

-- The answer r, and the buffer from d at entry to `out` at exit. The r bytes from place `from` on, up to `to` or the end, are
-- at the start, and the rest of d stays.
pub record MovedDown (d : Bytes) (from to r : ℕ) (out : Bytes) : Type 0 where
  pub count : r ≡ min to (length d) - from
  pub bytes : out ≡ take r (drop from d) ++ drop r d
