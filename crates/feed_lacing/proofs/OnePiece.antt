-- The shape of a page on the lacing values, one by one. Assumes nothing.
use mathlib.Core.Path.{◌≡◌, refl}
use mathlib.Core.List.{[], ◌∷◌}
use Prim.Native.Nat.{ℕ, zero, suc, ◌+◌, ◌<◌, ◌≤◌}
use native.Mathlib.Numerals.{add-one}
use native.Mathlib.Omega.{arith}
use borrow.Author.Tests.{lt-ltb, le-ltb}
use lib.ListN.{length}
use Rattle.octets.specs.Octets.{Bytes}
use Rattle.stream.specs.declared.Shape.{Shape}
use Rattle.stream.specs.declared.Shape.TheVariants.{Ends, GoesOn, Other}
use Rattle.stream.specs.Shape.{shape_after, shape_from}

-- what there is where i values, none of which ends a packet, are all
abbrev pub shape_at : ℕ → Shape
shape_at zero = Other
shape_at (suc i) = GoesOn

pub goes_on : (s : Shape) (l : Bytes) (v : ℕ) → 255 ≤ v → shape_from s (v ∷ l) ≡ shape_from GoesOn l
unfolding shape_from
goes_on s l v h = rw (le-ltb v 255 h)

pub ends : (s : Shape) (l : Bytes) (v : ℕ) → v < 255 → shape_from s (v ∷ l) ≡ shape_after l
unfolding shape_from
ends s l v h = rw (lt-ltb v 255 h)

pub at_end_lem : (s : Shape) → shape_from s [] ≡ s
unfolding shape_from
at_end_lem s = refl

-- after the end of a packet
pub no_more : (l : Bytes) → length l ≡ 0 → shape_after l ≡ Ends
no_more [] e = refl
no_more (v ∷ l) e = absurd (omega arith)

pub some_more : (l : Bytes) → 0 < length l → shape_after l ≡ Other
some_more [] h = absurd (omega arith)
some_more (v ∷ l) h = refl

pub shape-later : (i : ℕ) → shape_at (i + 1) ≡ GoesOn
shape-later i = rw (add-one i)

pub shape-some : (i : ℕ) → (i ≡ 0 → ⊥) → shape_at i ≡ GoesOn
shape-some zero h = absurd (h refl)
shape-some (suc i) h = refl
