-- The mapping's 255 places: the used ones and the zeros after them, and how many channels there are at
-- most. Assumes nothing.
use mathlib.Core.Path.{◌≡◌, refl, ap₂}
use mathlib.Core.Bool.{Bool, true, false, ◌&&◌, ◌||◌, false≢true}
use mathlib.Core.List.{[], ◌∷◌}
use mathlib.Core.Logic.{◌⊎◌, inl, inr, ⊎_elim}
use Prim.Native.Nat.{ℕ, zero, suc, ◌+◌, ◌*◌, ◌-◌, ◌≤◌}
use native.Mathlib.Nat.{le_trans, mul-le-mul_left, mul-le-mul_right}
use native.Mathlib.Omega.{arith}
use borrow.Author.Tests.{leb-true, eqb-true, not-false}
use lib.Dec.{eqb, leb}
use lib.ListN.{length, take, drop, replicate, length-drop, take-append-drop}
use lib.Seq.{length-take-le, take_at, drop_at}
use Rattle.octets.specs.Octets.{Bytes}
use Rattle.octets.specs.Pick.{pick}
use Rattle.octets.proofs.Tests.{both, equal-and}
use Rattle.head_reader.specs.Fields.{places}
use Rattle.head_families.specs.Families.{ambisonic_below, ambisonic_channels, is_ambisonic, most_channels, allowed_channels}
use Rattle.head_families.specs.Families.{has_counts, index_count}
use Rattle.head_fields.specs.Right.{plain_indices, all_zero}

-- the used places and the zeros after them

zeros_pass : (n : ℕ) → all_zero (replicate n 0) ≡ true
unfolding all_zero
zeros_pass zero = refl
zeros_pass (suc n) = zeros_pass n

all_zeros : (s : Bytes) → all_zero s ≡ true → s ≡ replicate (length s) 0
unfolding all_zero
all_zeros [] e = refl
all_zeros (i ∷ s) e = let t = equal-and i 0 (all_zero s) e in ap₂ (λ (x : ℕ) (l : Bytes). x ∷ l) t.0 (all_zeros s t.1)

module _ (n : ℕ) (s : Bytes) where
  pub used_places_lem : length s ≡ n → take n (places s) ≡ s
  unfolding places
  used_places_lem e = take_at s (replicate (255 - length s) 0) n e

  pub unused_zero : length s ≡ n → all_zero (drop n (places s)) ≡ true
  unfolding places
  unused_zero e = rw (drop_at s (replicate (255 - length s) 0) n e) (zeros_pass (255 - length s))

  -- a mapping is its used places and zeros
  pub places_used : length s ≡ 255 → n ≤ 255 → all_zero (drop n s) ≡ true → places (take n s) ≡ s
  unfolding places
  places_used e less z =
      let size : length (take n s) ≡ n = length-take-le n s (omega arith) in
      let rest : length (drop n s) ≡ 255 - n = simp length-drop (omega arith) in
      let same : drop n s ≡ replicate (255 - n) 0 = rw rest at (all_zeros (drop n s) z) in
      rw (size, ← same) (take-append-drop n s)

-- ---- how many channels there are

bigger_square : (n : ℕ) → n * n ≤ (1 + n) * (1 + n)
bigger_square n =
    let more : n ≤ 1 + n = omega arith in
    le_trans (mul-le-mul_right n more) (mul-le-mul_left (1 + n) more)

either : (a b : Bool) → a || b ≡ true → (a ≡ true) ⊎ (b ≡ true)
either true b e = inl refl
either false b e = inr e

ambisonic-most : (n c : ℕ) → ambisonic_below n c ≡ true → c ≤ n * n + 2
unfolding ambisonic_below
ambisonic-most zero c e = absurd (false≢true e)
ambisonic-most (suc n) c e =
    let square : ℕ = (1 + n) * (1 + n) in
    let next : suc n ≡ 1 + n = omega arith in
    let same : suc n * suc n ≡ square = ap₂ (λ (x y : ℕ). x * y) next next in
    ⊎_elim
    (λ (q : eqb c square ≡ true). omega (arith, same, eqb-true c square q))
    (λ (t : eqb c (square + 2) || ambisonic_below n c ≡ true).
    ⊎_elim
    (λ (q : eqb c (square + 2) ≡ true). omega (arith, same, eqb-true c (square + 2) q))
    (λ (q : ambisonic_below n c ≡ true). omega (arith, same, bigger_square n, ambisonic-most n c q))
    (either (eqb c (square + 2)) (ambisonic_below n c) t))
    (either (eqb c square) (eqb c (square + 2) || ambisonic_below n c) e)

most-fits : (a b c : Bool) → pick a 2 (pick b 8 (pick c 255 0)) ≤ 255
most-fits true b c = omega arith
most-fits false true c = omega arith
most-fits false false true = omega arith
most-fits false false false = omega arith

module _ (f c : ℕ) (h : allowed_channels f c ≡ true) where
  pub channels-most : c ≤ 255
  unfolding allowed_channels
  channels-most = by (is_ambisonic f) refl
    where
      in_set : pick (is_ambisonic f) (ambisonic_channels c) (leb c (most_channels f)) ≡ true
      in_set = (both (leb 1 c) (pick (is_ambisonic f) (ambisonic_channels c) (leb c (most_channels f))) h).1

      by : (t : Bool) → is_ambisonic f ≡ t → c ≤ 255
      by true e = omega (arith, ambisonic-most 15 c (rw e at in_set))
      by false e = omega (arith, leb-true c (most_channels f) (rw e at in_set), most-fits (eqb f 0) (eqb f 1) (eqb f 255))

-- a family without counts is 0
pub plain-family : (f : ℕ) → has_counts f ≡ false → f ≡ 0
plain-family f e = eqb-true f 0 (not-false (eqb f 0) e)

-- it has at most two channels
pub plain-length : (f c : ℕ) → allowed_channels f c ≡ true → has_counts f ≡ false
    → length (take (index_count f c) plain_indices) ≡ index_count f c
unfolding allowed_channels
plain-length f c h e =
    let zero-family = plain-family f e in
    let allowed : leb 1 c && leb c 2 ≡ true = rw zero-family at h in
    let two : c ≤ 2 = leb-true c 2 (both (leb 1 c) (leb c 2) allowed).1 in
    rw zero-family (length-take-le c plain_indices two)
