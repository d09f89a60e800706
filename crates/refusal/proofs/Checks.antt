-- Laws of `first_of`: stretches of checks, and what is known where no check refuses. Assumes nothing.
use mathlib.Core.Path.{◌≡◌, refl}
use mathlib.Core.Bool.{Bool, true, false}
use mathlib.Core.List.{List, [], ◌∷◌}
use mathlib.Core.Option.{Option, none, some}
use Prim.Native.Nat.{ℕ}
use native.Mathlib.Omega.{arith}
use Rattle.refusal.specs.declared.Refusal.{Refusal}
use Rattle.refusal.specs.Checks.{Check, ◌when◌, first_of}
use Rattle.refusal.specs.Told.{gives, decided}
use Rattle.refusal.specs.Statements.{FirstOfAppend}

pub first_of-append : FirstOfAppend
unfolding first_of
first_of-append [] second = refl
first_of-append ((r when true) ∷ first) second = refl
first_of-append ((r when false) ∷ first) second = first_of-append first second

-- something was given, so no check refused
pub no_refusal : {A : Type 0} (o : Option Refusal) (x y : A) → decided o x ≡ gives y → (o ≡ none) × (x ≡ y)
no_refusal none x y e = (refl, cc)
no_refusal (some r) x y e = let z : ◌≡◌ {A = ℕ} 0 1 = cc in absurd (omega arith)

-- one check off the front
pub passed : (r : Refusal) (t : Bool) (cs : List Check) → first_of (r when t ∷ cs) ≡ none → (t ≡ false) × (first_of cs ≡ none)
unfolding first_of
passed r true cs e = let z : ◌≡◌ {A = ℕ} 0 1 = cc in absurd (omega arith)
passed r false cs e = (refl, e)
