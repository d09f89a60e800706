-- `head_families::ambisonic_channels` meets its contract: that the list has the numbers of the rule and no others is one test that
-- antt computes over all 256 numbers. Assumes nothing.
use mathlib.Core.Path.{◌≡◌, refl, ap, ◌∙◌}
use Prim.Native.Nat.{ℕ, ◌<◌}
use native.Mathlib.Omega.{arith}
use Rattle.octets.specs.Octets.{Bytes}
use Rattle.head_families.specs.Families.{ambisonic_below, ambisonic_channels}
use Rattle.head_families.specs.Listed.{is_listed}
use Rattle.head_families.proofs.Listing.{any_listed, passing, listed}
use Rattle.head_families.proofs.ambisonic_channels.Goals as goal

-- a list that has them
has_all : (s : Bytes) → s ≡ passing ambisonic_channels 256 0 → (i : ℕ) → i < 256 → is_listed i s ≡ ambisonic_channels i
has_all s test i h = ap (is_listed i) test ∙ listed ambisonic_channels i 256 0 (omega arith) (omega arith)

pub returns : goal.returns
unfolding ambisonic_below
returns c = c.contains.ensures.value ∙ any_listed c.args.channels _ ∙ has_all _ refl c.args.channels (omega arith)
