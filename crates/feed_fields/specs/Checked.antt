-- What the code of the checks answers. Assumes nothing.
use Rattle.std.specs.Prelude.{⊤, Result, Ok, Err, Bool, true, false}
use Rattle.std.proofs.Math.Option.{Option, none, some}
use Rattle.refusal.specs.declared.Refusal.{Refusal}
use Rattle.stream.specs.declared.Pending.{Pending}
use Rattle.stream.specs.declared.Pending.TheVariants.{Nothing, Held, Dropped}

-- the refusal that was found
abbrev pub found : Result ⊤ Refusal → Option Refusal
found (Ok _) = none
found (Err why) = some why

-- a packet is unfinished
abbrev pub is_pending : Pending → Bool
is_pending Nothing = false
is_pending (Held n) = true
is_pending Dropped = true
