-- Lists of checks none of whose tests holds. Assumes nothing.
use mathlib.Core.Path.{◌≡◌, refl, ap}
use mathlib.Core.Bool.{Bool, true, false}
use mathlib.Core.List.{List, [], ◌∷◌, ◌++◌}
use mathlib.Core.Option.{Option, none, some}
use Prim.Native.Nat.{ℕ}
use native.Mathlib.Omega.{arith}
use Rattle.octets.specs.Pick.{pick}
use Rattle.refusal.specs.declared.Refusal.{Refusal}
use Rattle.refusal.specs.Checks.{Check, ◌when◌, first_of}
use Rattle.refusal.proofs.Checks.{passed}

abbrev pub Clear : List Check → Type 0
Clear [] = Unit {0}
Clear ((r when t) ∷ cs) = (t ≡ false) × Clear cs

pub some≢none : {n : Refusal} → ◌≡◌ {A = Option Refusal} (some n) none → ⊥
some≢none {n} e = let z : ◌≡◌ {A = ℕ} 0 1 = cc in omega arith

pub clear : (cs : List Check) → first_of cs ≡ none → Clear cs
clear [] e = tt
clear ((r when t) ∷ cs) e = ((passed r t cs e).0, clear cs (passed r t cs e).1)

pub passes : (cs : List Check) → Clear cs → first_of cs ≡ none
unfolding first_of
passes [] c = refl
passes ((r when t) ∷ cs) c = rw c.0 (passes cs c.1)

-- the checks in front are clear: the answer is that of the rest
pub past : (cs ds : List Check) → Clear cs → first_of (cs ++ ds) ≡ first_of ds
unfolding first_of
past [] ds c = refl
past ((r when t) ∷ cs) ds c = rw c.0 (past cs ds c.1)

pub clear_left : (cs ds : List Check) → Clear (cs ++ ds) → Clear cs
clear_left [] ds c = tt
clear_left ((r when t) ∷ cs) ds c = (c.0, clear_left cs ds c.1)

pub clear_right : (cs ds : List Check) → Clear (cs ++ ds) → Clear ds
clear_right [] ds c = c
clear_right ((r when t) ∷ cs) ds c = clear_right cs ds c.1

pub clear_both : (cs ds : List Check) → Clear cs → Clear ds → Clear (cs ++ ds)
clear_both [] ds c d = d
clear_both ((r when t) ∷ cs) ds c d = (c.0, clear_both cs ds c.1 d)

-- the first check refuses
pub refused : (r : Refusal) (t : Bool) (cs : List Check) → t ≡ true → first_of (r when t ∷ cs) ≡ some r
unfolding first_of
refused r t cs e = ap (λ (b : Bool). pick b (some r) (first_of cs)) e
