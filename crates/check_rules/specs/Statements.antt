-- What is proved of the findings: each is there exactly where its condition holds, once, and they are in order. Assumes nothing.
use Rattle.std.specs.Prelude.{ℕ, ◌+◌, ◌<◌, ◌≡◌, ◌⊎◌, Bool, false, ◌&&◌, List, [], ◌∷◌, eqb, drop}
use Rattle.octets.specs.Pick.{pick}
use Rattle.octets.specs.Octets.{Bytes}
use Rattle.stream.specs.Readings.{Readings}
use Rattle.stream.specs.Stream.{Listing, listings}
use Rattle.check_rules.specs.Findings.{left_unfinished, has_no_end, is_overtrimmed, has_gain_tag, has_hole, Finding, findings}

-- how often a finding of this kind on page k is among these
unfoldable pub times : ℕ → ℕ → List Finding → ℕ
times kind k [] = 0
times kind k (f ∷ fs) = pick (eqb f.kind kind && eqb f.page k) 1 0 + times kind k fs

-- the condition of a kind on page k, with the listing l; of other numbers none holds
abbrev pub condition_on : Readings → List Bytes → ℕ → ℕ → Listing → Bool
condition_on R S kind k l =
    pick (eqb kind 1) (left_unfinished S k)
    (pick (eqb kind 2) (has_no_end S k)
    (pick (eqb kind 3) (is_overtrimmed R S k l)
    (pick (eqb kind 4) (has_gain_tag S k)
    (pick (eqb kind 5) (has_hole l) false))))

-- of the page with the first of these listings; where there is none, there is no such page
abbrev pub condition_in : Readings → List Bytes → ℕ → ℕ → List Listing → Bool
condition_in R S kind k [] = false
condition_in R S kind k (l ∷ ls) = condition_on R S kind k l

-- a finding is there once where the condition of its kind holds on its page, and else not
abbrev pub Exact : Type 0
Exact =
    (R : Readings) (S : List Bytes) (kind k : ℕ)
    → times kind k (findings R S) ≡ pick (condition_in R S kind k (drop k (listings R S))) 1 0

-- by page, and on one page by kind
abbrev pub Before : Finding → Finding → Type 0
Before f g = (f.page < g.page) ⊎ ((f.page ≡ g.page) × (f.kind < g.kind))

-- f comes before each of these
unfoldable pub BeforeAll : Finding → List Finding → Type 0
BeforeAll f [] = Unit {0}
BeforeAll f (g ∷ gs) = Before f g × BeforeAll f gs

unfoldable pub Ordered : List Finding → Type 0
Ordered [] = Unit {0}
Ordered (f ∷ fs) = BeforeAll f fs × Ordered fs

abbrev pub InOrder : Type 0
InOrder = (R : Readings) (S : List Bytes) → Ordered (findings R S)
