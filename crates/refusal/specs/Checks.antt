-- Checks in their order, and the first that refuses (RULES.md, 7). Assumes nothing.
use Rattle.std.specs.Prelude.{Bool, List, [], ◌∷◌}
use Rattle.std.proofs.Math.Option.{Option, none, some}
use Rattle.octets.specs.Pick.{pick}
use Rattle.refusal.specs.declared.Refusal.{Refusal}

infix 68 ◌when◌
pub data Check : Type 0 where
  -- the refusal, and the test under which it is given
  ◌when◌ : Refusal → Bool → Check

-- the first answer, or else the second
abbrev pub or_else : Option Refusal → Option Refusal → Option Refusal
or_else none o = o
or_else (some r) o = some r

-- the refusal of the first check whose test holds
unfoldable pub first_of : List Check → Option Refusal
first_of [] = none
first_of ((r when test) ∷ checks) = pick test (some r) (first_of checks)
