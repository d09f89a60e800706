-- A number in a list, for the list of channel numbers in the code. Assumes nothing.
use Rattle.std.specs.Prelude.{ℕ, Bool, false, ◌||◌, [], ◌∷◌, eqb}
use Rattle.octets.specs.Octets.{Bytes}

unfoldable pub is_listed : ℕ → Bytes → Bool
is_listed n [] = false
is_listed n (i ∷ s) = eqb i n || is_listed n s
