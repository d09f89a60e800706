-- Which numbers of channels a family allows, by the tests in the order of the code: each law is one way through. Assumes
-- nothing.
use mathlib.Core.Path.{◌≡◌}
use mathlib.Core.Bool.{true, false}
use Prim.Native.Nat.{ℕ, ◌≤◌, ◌<◌}
use borrow.Author.Tests.{ne_eqb, le-leb, lt-leb}
use lib.Dec.{leb}
use Rattle.head_families.specs.Families.{ambisonic_channels, is_ambisonic, most_channels, allowed_channels}

-- how many channels a family allows
pub most_other : {family : ℕ} → (family ≡ 0 → ⊥) → (family ≡ 1 → ⊥) → (family ≡ 255 → ⊥) → most_channels family ≡ 0
most_other {family} a b c = rw (ne_eqb family 0 a, ne_eqb family 1 b, ne_eqb family 255 c)

pub not-ambisonic : {family : ℕ} → (family ≡ 2 → ⊥) → (family ≡ 3 → ⊥) → is_ambisonic family ≡ false
not-ambisonic {family} a b = rw (ne_eqb family 2 a, ne_eqb family 3 b)

module _ (family channels : ℕ) where
  pub no_channel : channels < 1 → allowed_channels family channels ≡ false
  unfolding allowed_channels
  no_channel h = rw (lt-leb 1 channels h)

  pub set_decides : 1 ≤ channels → is_ambisonic family ≡ true → allowed_channels family channels ≡ ambisonic_channels channels
  unfolding allowed_channels
  set_decides h a = rw (le-leb 1 channels h, a)

  pub most_decides : {most : ℕ} → 1 ≤ channels → is_ambisonic family ≡ false → most_channels family ≡ most
      → allowed_channels family channels ≡ leb channels most
  unfolding allowed_channels
  most_decides h a e = rw (le-leb 1 channels h, a, e)
