-- What is proved of checks in their order. Assumes nothing.
use Rattle.std.specs.Prelude.{◌≡◌, false, List, ◌++◌, eqb}
use Rattle.refusal.specs.declared.Refusal.{Refusal}
use Rattle.refusal.specs.Numbers.{number_of}
use Rattle.refusal.specs.Checks.{Check, first_of, or_else}

-- two stretches of checks: the first stretch decides, or else the second
abbrev pub FirstOfAppend : Type 0
FirstOfAppend = (first second : List Check) → first_of (first ++ second) ≡ or_else (first_of first) (first_of second)

-- no refusal has the number 0, which tells a caller in C that there is none
abbrev pub NumbersPositive : Type 0
NumbersPositive = (r : Refusal) → eqb (number_of r) 0 ≡ false
