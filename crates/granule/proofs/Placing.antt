-- Each way that a page is judged. Assumes nothing.
use Prim.Native.Nat.{ℕ, ◌+◌, ◌-◌, ◌≤◌, ◌<◌}
use mathlib.Core.Path.{◌≡◌, refl, subst, ◌∙◌}
use mathlib.Core.Bool.{Bool, true, false, ◌&&◌, true≢false}
use mathlib.Core.List.{[], ◌∷◌}
use native.Mathlib.Omega.{arith}
use borrow.Author.Tests.{ltb-true, ltb-false, lt-ltb, le-ltb}
use lib.Dec.{ltb}
use Rattle.octets.specs.Pick.{pick}
use Rattle.refusal.specs.declared.Refusal.TheVariants.{NoPosition, BelowPreSkip, GranuleTooSmall}
use Rattle.refusal.specs.Checks.{◌when◌, first_of}
use Rattle.refusal.specs.Numbers.{number_of}
use Rattle.refusal.specs.Told.{gives, refuses}
use Rattle.refusal.proofs.Checks.{no_refusal, passed}
use Rattle.granule.specs.declared.Position.{Position}
use Rattle.granule.specs.declared.Position.TheVariants.{Unset, Joined, At}
use Rattle.granule.specs.declared.Placed.{Placed}
use Rattle.granule.specs.Samples.{trimmed_of}
use Rattle.granule.specs.Judging.{is_unset, is_joined, too_small, judge_checks, from, placed, judge}
use Rattle.granule.specs.Code.{first_place}
use Rattle.granule.specs.Statements.{Fits, PlacedFits}
use Rattle.granule.proofs.Counting.{closed_forms}

-- the place of a page whose packets begin after `at`
abbrev place : ℕ → ℕ → ℕ → ℕ → Placed
place b hole trimmed from = record { before = b; hole = hole; trimmed = trimmed; from = from }

-- ---- where the stamps run from, and what is trimmed

same-pick : (t : Bool) (n : ℕ) → pick t n n ≡ n
same-pick true n = refl
same-pick false n = refl

pub from_unset : (last : Bool) (g d : ℕ) → from Unset last g d ≡ g - d
unfolding from
from_unset last g d = same-pick (last && ltb g (g - d + d)) (g - d)

pub from-joined : (last : Bool) (g d : ℕ) → from Joined last g d ≡ g - d
unfolding from
from-joined last g d = same-pick (last && ltb g (g - d + d)) (g - d)

pub trimmed-first : (last : Bool) (g d : ℕ) → (last ≡ false → d ≤ g) → trimmed_of last g (g - d) d ≡ d - g
trimmed-first true g d h = (closed_forms 0 g (g - d) d).trimmed ∙ (omega arith)
trimmed-first false g d h = (closed_forms 0 g (g - d) d).uncut ∙ (let k : d ≤ g = h refl in omega arith)

-- the first page of sound that a reader sees
pub placed_unset : (last : Bool) (g d : ℕ) → (last ≡ false → d ≤ g) → placed Unset last g d ≡ first_place g d
unfolding placed
placed_unset last g d h = rw (from_unset last g d, trimmed-first last g d h)

pub placed-joined : (last : Bool) (g d : ℕ) → (last ≡ false → d ≤ g) → placed Joined last g d ≡ first_place g d
unfolding placed
placed-joined last g d h = rw (from-joined last g d, trimmed-first last g d h)

-- after P: cut, on a page that is marked last
pub placed-cut : (p g d : ℕ) → p ≤ g → g < p + d → placed (At p) true g d ≡ place p 0 (d - (g - p)) p
unfolding placed from
placed-cut p g d low short =
    let empty : g - (p + d) ≡ 0 = omega arith in
    rw (lt-ltb g (p + d) short, (closed_forms 0 g p d).trimmed, empty)

trimmed-none : (last : Bool) (g d : ℕ) → d ≤ g → trimmed_of last g (g - d) d ≡ 0
trimmed-none last g d h = trimmed-first last g d (λ e. h) ∙ (omega arith)

-- after P: whole, with a hole or none
pub placed-whole : (p : ℕ) (last : Bool) (g d : ℕ) → p + d ≤ g → placed (At p) last g d ≡ place p (g - (p + d)) 0 (g - d)
unfolding placed from
placed-whole p true g d h = rw (le-ltb g (p + d) h, trimmed-none true g d (omega arith))
placed-whole p false g d h = rw (trimmed-none false g d (omega arith))

-- ---- the refusals and the places, by cases

pub no_position : (preskip g d : ℕ) → judge Joined preskip g d true ≡ refuses (number_of NoPosition)
unfolding judge first_of
no_position preskip g d = refl

pub below-preskip : (preskip g d : ℕ) → g < preskip → judge Unset preskip g d true ≡ refuses (number_of BelowPreSkip)
unfolding judge first_of
below-preskip preskip g d h = rw (lt-ltb g preskip h)

pub last_unset : (preskip g d : ℕ) → preskip ≤ g → judge Unset preskip g d true ≡ gives (first_place g d)
unfolding judge first_of
last_unset preskip g d h = rw (le-ltb g preskip h, placed_unset true g d (λ e. absurd (true≢false e)))

pub small_unset : (preskip g d : ℕ) → g < d → judge Unset preskip g d false ≡ refuses (number_of GranuleTooSmall)
unfolding judge first_of
small_unset preskip g d h = rw (lt-ltb g d h)

pub next_unset : (preskip g d : ℕ) → d ≤ g → judge Unset preskip g d false ≡ gives (first_place g d)
unfolding judge first_of
next_unset preskip g d h = rw (le-ltb g d h, placed_unset false g d (λ e. h))

pub small-joined : (preskip g d : ℕ) → g < d → judge Joined preskip g d false ≡ refuses (number_of GranuleTooSmall)
unfolding judge first_of
small-joined preskip g d h = rw (lt-ltb g d h)

pub next-joined : (preskip g d : ℕ) → d ≤ g → judge Joined preskip g d false ≡ gives (first_place g d)
unfolding judge first_of
next-joined preskip g d h = rw (le-ltb g d h, placed-joined false g d (λ e. h))

pub below_at : (p preskip g d : ℕ) (last : Bool) → g < p → judge (At p) preskip g d last ≡ refuses (number_of GranuleTooSmall)
unfolding judge first_of
below_at p preskip g d true h = rw (lt-ltb g p h)
below_at p preskip g d false h = let k : g < p + d = omega arith in rw (lt-ltb g (p + d) k)

pub cut_at : (p preskip g d : ℕ) → p ≤ g → g < p + d → judge (At p) preskip g d true ≡ gives (place p 0 (d - (g - p)) p)
unfolding judge first_of
cut_at p preskip g d low short = rw (le-ltb g p low, placed-cut p g d low short)

pub short_at : (p preskip g d : ℕ) → g < p + d → judge (At p) preskip g d false ≡ refuses (number_of GranuleTooSmall)
unfolding judge first_of
short_at p preskip g d h = rw (lt-ltb g (p + d) h)

pub whole_at : (p preskip g d : ℕ) (last : Bool) → p + d ≤ g → judge (At p) preskip g d last ≡ gives (place p (g - (p + d)) 0 (g - d))
unfolding judge first_of
whole_at p preskip g d true h = let k : p ≤ g = omega arith in rw (le-ltb g p k, placed-whole p true g d h)
whole_at p preskip g d false h = rw (le-ltb g (p + d) h, placed-whole p false g d h)

-- ---- what is placed fits

fits : (g d b hole trimmed from : ℕ) → from ≤ g → from + d ≡ g + trimmed → b + hole ≡ from → Fits g d (place b hole trimmed from)
fits g d b hole trimmed from starts ends spans =
    record { starts = starts; ends = ends; spans = spans; stamps = λ small few. (omega arith) }

fits-first : (g d : ℕ) → Fits g d (first_place g d)
fits-first g d = fits g d (g - d) 0 (d - g) (g - d) (omega arith) (omega arith) (omega arith)

fits_cut : (p g d : ℕ) → p ≤ g → g < p + d → Fits g d (place p 0 (d - (g - p)) p)
fits_cut p g d low short = fits g d p 0 (d - (g - p)) p low (omega arith) (omega arith)

fits_whole : (p g d : ℕ) → p + d ≤ g → Fits g d (place p (g - (p + d)) 0 (g - d))
fits_whole p g d h = fits g d p (g - (p + d)) 0 (g - d) (omega arith) (omega arith) (omega arith)

first-room : (last : Bool) (g d : ℕ) → too_small Unset last g d ≡ false → last ≡ false → d ≤ g
first-room true g d e f = absurd (true≢false f)
first-room false g d e f = ltb-false g d e

pub fits-placed : (position : Position) (last : Bool) (g d : ℕ) → too_small position last g d ≡ false → Fits g d (placed position last g d)
fits-placed Unset last g d e = rw (placed_unset last g d (first-room last g d e)) (fits-first g d)
fits-placed Joined last g d e = rw (placed-joined last g d (first-room last g d e)) (fits-first g d)
fits-placed (At p) true g d e = by (ltb g (p + d)) refl
  where
    by : (b : Bool) → ltb g (p + d) ≡ b → Fits g d (placed (At p) true g d)
    by true h = rw (placed-cut p g d (ltb-false g p e) (ltb-true g (p + d) h)) (fits_cut p g d (ltb-false g p e) (ltb-true g (p + d) h))
    by false h = rw (placed-whole p true g d (ltb-false g (p + d) h)) (fits_whole p g d (ltb-false g (p + d) h))
fits-placed (At p) false g d e = rw (placed-whole p false g d (ltb-false g (p + d) e)) (fits_whole p g d (ltb-false g (p + d) e))

pub placed-fits : PlacedFits
unfolding judge
placed-fits position preskip g d last w e =
    let found = no_refusal (first_of (judge_checks position preskip g d last)) (placed position last g d) w e in
    let third = (passed NoPosition (last && is_joined position)
    (BelowPreSkip when (last && (is_unset position && ltb g preskip)) ∷ GranuleTooSmall when too_small position last g d ∷ []) found.0).1 in
    let fourth = (passed BelowPreSkip (last && (is_unset position && ltb g preskip)) (GranuleTooSmall when too_small position last g d ∷ []) third).1 in
    subst (Fits g d) found.1 (fits-placed position last g d (passed GranuleTooSmall (too_small position last g d) [] fourth).0)
