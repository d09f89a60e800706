-- The checks of the fields one after the other, and what is unfinished. Assumes nothing.
use mathlib.Core.Path.{◌≡◌, refl, sym, ap, ◌∙◌}
use mathlib.Core.Bool.{Bool}
use mathlib.Core.List.{List, [], ◌∷◌}
use mathlib.Core.Option.{Option}
use Rattle.octets.specs.Octets.{Bytes}
use Rattle.refusal.specs.declared.Refusal.{Refusal}
use Rattle.refusal.specs.Checks.{Check, ◌when◌, first_of, or_else}
use Rattle.refusal.proofs.Checks.{first_of-append}
use Rattle.stream.specs.declared.Pending.{Pending}
use Rattle.stream.specs.declared.Pending.TheVariants.{Nothing, Held, Dropped}
use Rattle.stream.specs.State.{unfinished}
use Rattle.stream.specs.Feed.{carried_in}
use Rattle.feed_fields.specs.Checked.{is_pending}

-- one check, and those after it
pub then : (k : Refusal) (t : Bool) (rest : List Check) {w : Option Refusal} → w ≡ first_of (k when t ∷ [])
    → first_of (k when t ∷ rest) ≡ or_else w (first_of rest)
then k t rest e = first_of-append (k when t ∷ []) rest ∙ ap (λ (o : Option Refusal). or_else o (first_of rest)) (sym e)

pub pending-view : (pending : Pending) (carry : Bytes) → is_pending pending ≡ unfinished (carried_in pending carry)
pending-view Nothing carry = refl
pending-view (Held n) carry = refl
pending-view Dropped carry = refl
