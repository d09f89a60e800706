-- The granule position of an audio page (RULES.md, 8 and 9, refusals 11, 19, 18 and 17; RFC 7845, 4). G is its granule, D the
-- samples of the packets that complete there. Feeding judges a G of at most 2^63 - 1 only (11); the rules here are for every
-- number. Assumes nothing.
use Rattle.refusal.specs.declared.Refusal.{Refusal}
use Rattle.std.specs.Prelude.{Result, Ok, Err, ℕ, ◌+◌, ◌-◌, ◌^◌, Bool, true, false, not, ◌&&◌, List, [], ◌∷◌, ltb, eqb}
use Rattle.octets.specs.Pick.{pick}
use Rattle.refusal.specs.declared.Refusal.TheVariants.{NoPosition, BelowPreSkip, GranuleTooSmall}
use Rattle.refusal.specs.Checks.{Check, ◌when◌, first_of}
use Rattle.refusal.specs.Told.{Told, gives, refuses, decided}
use Rattle.refusal.specs.Numbers.{number_of}
use Rattle.granule.specs.declared.Position.{Position}
use Rattle.granule.specs.declared.Position.TheVariants.{Unset, Joined, At}
use Rattle.granule.specs.declared.Placed.{Placed as Place}
use Rattle.granule.specs.Samples.{trimmed_of}

abbrev pub is_unset : Position → Bool
is_unset Unset = true
is_unset Joined = false
is_unset (At p) = false

abbrev pub is_joined : Position → Bool
is_joined Unset = false
is_joined Joined = true
is_joined (At p) = false

-- the largest granule position of an audio page
abbrev pub granule_max : ℕ
granule_max = 2 ^ 63 - 1

-- all ones: the page has no granule position
abbrev pub no_granule : ℕ
no_granule = 2 ^ 64 - 1

-- 11: where a packet completes, G is above the most that it may be; where none does, the page has a granule position
unfoldable pub granule_wrong : ℕ → Bool → ℕ → Bool
granule_wrong most completes g = pick completes (ltb most g) (not (eqb g no_granule))

-- 17: G below D, or below P + D; on a page marked last only G below P
abbrev pub too_small : Position → Bool → ℕ → ℕ → Bool
too_small Unset last g d = not last && ltb g d
too_small Joined last g d = not last && ltb g d
too_small (At p) last g d = pick last (ltb g p) (ltb g (p + d))

abbrev pub judge_checks : Position → ℕ → ℕ → ℕ → Bool → List Check
judge_checks position preskip g d last =
    NoPosition when (last && is_joined position)
    ∷ BelowPreSkip when (last && (is_unset position && ltb g preskip))
    ∷ GranuleTooSmall when too_small position last g d
    ∷ []

-- the position before the page's packets: P, or the initial one, which is 0 where G is below D
abbrev pub before : Position → ℕ → ℕ → ℕ
before Unset g d = g - d
before Joined g d = g - d
before (At p) g d = p

-- what a G above P + D leaves empty
abbrev pub hole : Position → ℕ → ℕ → ℕ
hole Unset g d = 0
hole Joined g d = 0
hole (At p) g d = g - (p + d)

-- where the stamps run from: forward from the position before the page, if it is marked last and G is below that position
-- and D; else back from G
unfoldable pub from : Position → Bool → ℕ → ℕ → ℕ
from position last g d = pick (last && ltb g (before position g d + d)) (before position g d) (g - d)

unfoldable pub placed : Position → Bool → ℕ → ℕ → Place
placed position last g d = record {
  before = before position g d;
  hole = hole position g d;
  trimmed = trimmed_of last g (from position last g d) d;
  from = from position last g d;
}

unfoldable pub judge : Position → ℕ → ℕ → ℕ → Bool → Told Place
judge position preskip g d last = decided (first_of (judge_checks position preskip g d last)) (placed position last g d)
