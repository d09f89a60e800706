-- One pass over the list in place of rounds that begin all over. The list is K followed by B: the pages of K are accepted as they
-- come out with B after them. Where the next page is refused, it goes missing, and the pass goes on; or, where that changes how
-- the last page of K comes out, it goes back to a point from which no page before it changes. Assumes nothing.
use Rattle.std.specs.Prelude.{◌≡◌, Bool, false, ◌⊎◌, List, [], ◌∷◌, ◌++◌}
use Rattle.std.proofs.Math.Option.{none}
use Rattle.stream.specs.Readings.{Readings}
use Rattle.stream.specs.State.{State}
use Rattle.recording.specs.Judging.{first_refused, fresh}
use Rattle.salvage_rules.specs.Good.{Good}
use Rattle.salvage_rules.specs.Tidy.{goes_through}
use Rattle.salvage_rules.specs.Rounds.{settled}
use Rattle.salvage_rules.specs.Steps.{bit_of, state_after, first_out}

-- the pages of K are accepted with B after them; s is the state after them, and t whether the packet that goes on after the last
-- of them is cut by a later break
pub record Accepted (R : Readings) (K B : List Good) (s : State) (t : Bool) : Type 0 where
  pub accepted : first_refused R fresh 0 (first_out K B) ≡ none
  pub state : s ≡ state_after R fresh (first_out K B)
  pub cut : t ≡ bit_of K B

-- some rounds on the list G have led to K followed by B
pub record Going (R : Readings) (G K B : List Good) (s : State) (t : Bool) : Type 0 where
  pub rounds : settled R G ≡ settled R (K ++ B)
  pub fed : Accepted R K B s t

-- a page, first of C, on which the packet that is before it ends
pub record Begins (C : List Good) : Type 0 where
  pub first : Good
  pub later : List Good
  pub parts : C ≡ first ∷ later
  pub ends : goes_through first.page ≡ false

-- what comes after C changes no page of J
abbrev pub Stable : List Good → List Good → Type 0
Stable J C = (J ≡ []) ⊎ Begins C

-- a point to go back to: after J, C being the other pages of K
pub record Saved (R : Readings) (K B J C : List Good) (s : State) (t : Bool) : Type 0 where
  pub parts : K ≡ J ++ C
  pub stable : Stable J C
  pub fed : Accepted R J (C ++ B) s t
