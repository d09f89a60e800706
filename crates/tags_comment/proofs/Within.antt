-- Bytes that all lie in a range, one byte after the other. Assumes nothing.
use mathlib.Core.Path.{◌≡◌, refl, ap}
use mathlib.Core.Bool.{Bool, true, ◌&&◌}
use mathlib.Core.List.{[], ◌∷◌}
use Rattle.std.specs.List.{list_all}
use Prim.Native.Nat.{ℕ, suc, ◌+◌, ◌≤◌, ◌<◌}
use native.Mathlib.Numerals.{add-one}
use borrow.Author.Tests.{leb-true}
use lib.Dec.{leb}
use lib.ListN.{length, get_or, drop}
use lib.Seq.{drop-cons}
use Rattle.octets.specs.Octets.{Bytes}
use Rattle.octets.proofs.Tests.{both}
use Rattle.tags_comment.specs.Names.{all_within}

-- a test of each byte, in the words of the definition
pub each_within : (low high : ℕ) (s : Bytes) → list_all (λ (b : ℕ). leb low b && leb b high) s ≡ all_within low high s
unfolding all_within
each_within low high [] = refl
each_within low high (b ∷ s) = ap (λ (t : Bool). (leb low b && leb b high) && t) (each_within low high s)

module _ (low high : ℕ) (s : Bytes) (i : ℕ) (inside : i < length s) where
  -- of all of them, the byte at a place
  module _ (all : all_within low high (drop i s) ≡ true) where
    parts : ((leb low (get_or s i 0) && leb (get_or s i 0) high) ≡ true) × (all_within low high (drop (suc i) s) ≡ true)
    unfolding all_within
    parts = both _ _ (rw (drop-cons s i 0 inside) at all)

    pub low-there : low ≤ get_or s i 0
    low-there = leb-true low (get_or s i 0) (both _ _ parts.0).0

    pub high-there : get_or s i 0 ≤ high
    high-there = leb-true (get_or s i 0) high (both (leb low (get_or s i 0)) _ parts.0).1

    pub others : all_within low high (drop (i + 1) s) ≡ true
    others = rw add-one parts.1
