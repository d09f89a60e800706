-- A value that may be missing, as the code has it and as the definitions have it. Assumes nothing.
use Rattle.std.specs.Prelude.{Option as CodeOption, Some, None}
use Rattle.std.proofs.Math.Option.{Option, none, some}

-- what the code's answer gives
abbrev pub given : {A : Type 0} → CodeOption A → Option A
given (Some a) = some a
given None = none
