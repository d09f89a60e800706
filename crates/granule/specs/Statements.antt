-- What is proved of positions and samples, in addition to the contracts. Assumes nothing.
use Rattle.std.specs.Prelude.{ℕ, ◌+◌, ◌-◌, ◌^◌, ◌<◌, ◌≤◌, min, ◌≡◌, Bool, true, false}
use Rattle.refusal.specs.Told.{gives}
use Rattle.granule.specs.declared.Position.{Position}
use Rattle.granule.specs.declared.Placed.{Placed}
use Rattle.granule.specs.Samples.{trimmed_of, skipped_of, kept_of}
use Rattle.granule.specs.Judging.{judge}

-- each sample is trimmed, skipped or kept, and only one of them
abbrev pub SamplesShared : Type 0
SamplesShared =
    (skip : ℕ) (last : Bool) (g at d : ℕ)
    → kept_of skip last g at d + skipped_of skip last g at d + trimmed_of last g at d ≡ d

-- samples counted in two parts, the second after d others
pub record Parts (skip : ℕ) (last : Bool) (g at d e : ℕ) : Type 0 where
  pub kept : kept_of skip last g at (d + e) ≡ kept_of skip last g at d + kept_of (skip - d) last g (at + d) e
  pub trimmed : trimmed_of last g at (d + e) ≡ trimmed_of last g at d + trimmed_of last g (at + d) e

abbrev pub SamplesInParts : Type 0
SamplesInParts = (skip : ℕ) (last : Bool) (g at d e : ℕ) → Parts skip last g at d e

-- the counts in closed form
pub record Closed (skip g at d : ℕ) : Type 0 where
  pub whole : kept_of skip false g at d ≡ d - min skip d
  pub cut : kept_of skip true g at d ≡ min (g - at) d - min skip d
  pub uncut : trimmed_of false g at d ≡ 0
  pub trimmed : trimmed_of true g at d ≡ d - (g - at)

abbrev pub ClosedForms : Type 0
ClosedForms = (skip g at d : ℕ) → Closed skip g at d

-- a page that is placed: its packets begin at or before G, the sums agree, and with a G in 63 bits and a D in 32 no stamp
-- passes 64 bits
pub record Fits (g d : ℕ) (w : Placed) : Type 0 where
  pub starts : w.from ≤ g
  pub ends : w.from + d ≡ g + w.trimmed
  pub spans : w.before + w.hole ≡ w.from
  pub stamps : g < 2 ^ 63 → d < 2 ^ 32 → w.from + d < 2 ^ 64

abbrev pub PlacedFits : Type 0
PlacedFits =
    (position : Position) (preskip g d : ℕ) (last : Bool) (w : Placed) → judge position preskip g d last ≡ gives w → Fits g d w
