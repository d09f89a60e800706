-- What a chain that ends in `any` answers, as a test of a list. Assumes nothing.
use Rattle.std.specs.Prelude.{ℕ, ◌≡◌, ◌<◌, Bool, true, false, List, length}
use Rattle.std.specs.Bool.{MatchBool}
use Rattle.std.specs.List.{list_any, HoldsAt, AllWithin}
use Rattle.std.proofs.slice.Searches.{passes_at, passes_none}

pub any_is : {X : Type 0} (p : X → Bool) (xs : List X) (r : Bool)
    → MatchBool r ((k : ℕ) × (k < length xs) × HoldsAt (λ y. p y ≡ true) xs k) (AllWithin (λ y. p y ≡ false) xs 0 (length xs)) → r ≡ list_any p xs
any_is p xs true m = passes_at p xs m.0 m.1 m.2
any_is p xs false m = passes_none p xs m
