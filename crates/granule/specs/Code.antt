-- What a private function promises, in the code's own words; `proofs/Placing.antt` has the laws to the rules. Assumes
-- nothing.
use Rattle.std.specs.Prelude.{ℕ, ◌-◌}
use Rattle.granule.specs.declared.Placed.{Placed}

-- the place of the first page of sound that a reader sees, where it is not refused
abbrev pub first_place : ℕ → ℕ → Placed
first_place g d = record { before = g - d; hole = 0; trimmed = d - g; from = g - d }
