-- How the frames of a packet lie in it, by the tests on its first two bytes. Assumes nothing.
use mathlib.Core.Path.{◌≡◌, refl}
use mathlib.Core.Bool.{Bool, true, false}
use mathlib.Core.List.{[], ◌∷◌}
use Prim.Native.Nat.{ℕ, ◌*◌, ◌/◌, ◌%◌, ◌≤◌, ◌<◌, zero-le}
use native.Mathlib.Omega.{arith}
use borrow.Author.Tests.{lt-ltb, le-ltb, eq-eqb, ne_eqb}
use lib.Dec.{ltb}
use lib.ListN.{length, get_or, drop}
use Rattle.octets.specs.Pick.{pick}
use Rattle.octets.specs.Octets.{Bytes}
use Rattle.packet_toc.specs.Toc.{code_of, frame_samples}
use Rattle.packet_frames.specs.Frames.{samples_max, Read, short, value, padding_from}
use Rattle.packet_frames.specs.Packet.{count_of, is_variable, padded, counted_shape, shape_of}
use Rattle.packet_frames.specs.Code.{capped, Plain, none, plain, plain_of}

pub some : {n : ℕ} → (n ≡ 0 → ⊥) → 0 < n
some {n} h = omega arith

-- a count byte and samples that calls gave
pub bounded : {a b d e : ℕ} → a ≡ b → d ≡ e → count_of a * d ≤ samples_max → count_of b * e ≤ samples_max
bounded p q h = rw (← p, ← q) h

-- no padding is never too long
never_long : (k : ℕ) → ltb k 0 ≡ false
never_long k = le-ltb k 0 zero-le

module _ (k : ℕ) where
  pub nothing : (s : Bytes) → length s ≡ 0 → plain_of k (shape_of s) ≡ none
  unfolding shape_of
  nothing [] h = refl
  nothing (toc ∷ s) h = absurd (omega arith)

  pub code_0 : (s : Bytes) → 0 < length s → code_of (get_or s 0 0) ≡ 0 → plain_of k (shape_of s) ≡ plain 1 true 0 (drop 1 s)
  unfolding shape_of
  code_0 [] h e = absurd (omega arith)
  code_0 (toc ∷ s) h e = rw (eq-eqb (code_of toc) 0 e, never_long k)

  pub code_1 : (s : Bytes) → 0 < length s → code_of (get_or s 0 0) ≡ 1 → plain_of k (shape_of s) ≡ plain 2 false 0 (drop 1 s)
  unfolding shape_of
  code_1 [] h e = absurd (omega arith)
  code_1 (toc ∷ s) h e = rw (e, never_long k)

  pub code_2 : (s : Bytes) → 0 < length s → code_of (get_or s 0 0) ≡ 2 → plain_of k (shape_of s) ≡ plain 2 true 0 (drop 1 s)
  unfolding shape_of
  code_2 [] h e = absurd (omega arith)
  code_2 (toc ∷ s) h e = rw (e, never_long k)

  pub code_3 : (s : Bytes) → 0 < length s → (code_of (get_or s 0 0) ≡ 0 → ⊥) → (code_of (get_or s 0 0) ≡ 1 → ⊥) → (code_of (get_or s 0 0) ≡ 2 → ⊥)
      → shape_of s ≡ counted_shape (get_or s 0 0) (drop 1 s)
  unfolding shape_of
  code_3 [] h a b c = absurd (omega arith)
  code_3 (toc ∷ s) h a b c = rw (ne_eqb (code_of toc) 0 a, ne_eqb (code_of toc) 1 b, ne_eqb (code_of toc) 2 c)

-- a packet of code 3, by its count byte
module _ (k : ℕ) where
  abbrev whole : Bytes → Plain
  whole s = plain_of k (counted_shape (get_or s 0 0) (drop 1 s))

  pub no_count : (s : Bytes) → length s < 2 → whole s ≡ none
  unfolding counted_shape
  no_count [] h = refl
  no_count (toc ∷ []) h = refl
  no_count (toc ∷ c ∷ s) h = absurd (omega arith)

  pub no_frames : (s : Bytes) → 2 ≤ length s → count_of (get_or s 1 0) ≡ 0 → whole s ≡ none
  unfolding counted_shape
  no_frames [] h e = absurd (omega arith)
  no_frames (toc ∷ []) h e = absurd (omega arith)
  no_frames (toc ∷ c ∷ s) h e = rw (eq-eqb (count_of c) 0 e)

  pub too_much : (s : Bytes) → 2 ≤ length s → (count_of (get_or s 1 0) ≡ 0 → ⊥) → samples_max < count_of (get_or s 1 0) * frame_samples (get_or s 0 0) → whole s ≡ none
  unfolding counted_shape
  too_much [] h e l = absurd (omega arith)
  too_much (toc ∷ []) h e l = absurd (omega arith)
  too_much (toc ∷ c ∷ s) h e l = rw (ne_eqb (count_of c) 0 e, lt-ltb samples_max (count_of c * frame_samples toc) l)

  pub unpadded : (s : Bytes) → 2 ≤ length s → (count_of (get_or s 1 0) ≡ 0 → ⊥) → count_of (get_or s 1 0) * frame_samples (get_or s 0 0) ≤ samples_max
      → (get_or s 1 0 / 64 % 2 ≡ 1 → ⊥) → whole s ≡ plain (count_of (get_or s 1 0)) (is_variable (get_or s 1 0)) 0 (drop 2 s)
  unfolding counted_shape
  unpadded [] h e l p = absurd (omega arith)
  unpadded (toc ∷ []) h e l p = absurd (omega arith)
  unpadded (toc ∷ c ∷ s) h e l p =
      rw (ne_eqb (count_of c) 0 e, le-ltb samples_max (count_of c * frame_samples toc) l, ne_eqb (c / 64 % 2) 1 p, never_long k)

  -- by the padding that was found
  abbrev pub padded_by : ℕ → Bool → Read ℕ → Plain
  padded_by m vary short = none
  padded_by m vary (value p s) = plain m vary p s

  by_test : (t : Bool) (m : ℕ) (vary : Bool) (p : ℕ) (s : Bytes) → pick t none (plain m vary p s) ≡ padded_by m vary (pick t short (value p s))
  by_test true m vary p s = refl
  by_test false m vary p s = refl

  by-padding : (m : ℕ) (vary : Bool) (r : Read ℕ) → plain_of k (padded m vary r) ≡ padded_by m vary (capped k r)
  by-padding m vary short = refl
  by-padding m vary (value p s) = by_test (ltb k p) m vary p s

  pub with_padding : (s : Bytes) → 2 ≤ length s → (count_of (get_or s 1 0) ≡ 0 → ⊥) → count_of (get_or s 1 0) * frame_samples (get_or s 0 0) ≤ samples_max
      → get_or s 1 0 / 64 % 2 ≡ 1 → whole s ≡ padded_by (count_of (get_or s 1 0)) (is_variable (get_or s 1 0)) (capped k (padding_from 0 (drop 2 s)))
  unfolding counted_shape
  with_padding [] h e l p = absurd (omega arith)
  with_padding (toc ∷ []) h e l p = absurd (omega arith)
  with_padding (toc ∷ c ∷ s) h e l p =
      rw (ne_eqb (count_of c) 0 e, le-ltb samples_max (count_of c * frame_samples toc) l, eq-eqb (c / 64 % 2) 1 p)
      (by-padding (count_of c) (is_variable c) (padding_from 0 s))
