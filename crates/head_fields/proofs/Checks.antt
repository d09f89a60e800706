-- When the fields of a header are right, by the tests in the order of the code: each law is one way through. Assumes nothing.
use mathlib.Core.Path.{◌≡◌, refl, ap}
use mathlib.Core.Bool.{Bool, true, false, ◌&&◌}
use mathlib.Core.List.{[], ◌∷◌}
use Rattle.std.specs.List.{list_all}
use Prim.Native.Nat.{ℕ, ◌+◌, ◌-◌, ◌≤◌, ◌<◌, min}
use native.Mathlib.Omega.{arith}
use borrow.Author.Tests.{eq-eqb, ne_eqb, le-leb, lt-leb}
use lib.Dec.{eqb, leb}
use lib.ListN.{length, take, drop, length-drop}
use lib.Seq.{take_all}
use Rattle.octets.specs.Octets.{Bytes, begins}
use Rattle.octets.proofs.Parts.{take_min}
use Rattle.head_fields.specs.declared.Head.{Head}
use Rattle.head_families.specs.Families.{allowed_channels, has_counts}
use Rattle.head_fields.specs.Layout.{fits_packet, head_size, used_count}
use Rattle.head_fields.specs.Right.{plain_indices, unused_places}
use Rattle.head_fields.specs.Right.{right_index, right_indices, all_zero, right_streams, right_plain, right_mapping, right_fields}

-- a test of each of some places, in the words of the definitions
pub indices : (n : ℕ) (s : Bytes) → list_all (λ (i : ℕ). right_index n i) s ≡ right_indices n s
unfolding right_indices
indices n [] = refl
indices n (i ∷ s) = ap (λ (t : Bool). right_index n i && t) (indices n s)

pub zeros : (s : Bytes) → list_all (λ (i : ℕ). eqb i 0) s ≡ all_zero s
unfolding all_zero
zeros [] = refl
zeros (i ∷ s) = ap (λ (t : Bool). eqb i 0 && t) (zeros s)

and-true : (t : Bool) → t && true ≡ t
and-true true = refl
and-true false = refl

-- the last part of the mapping, as the code lends it
last_part_lem : (s : Bytes) (n m : ℕ) → length s ≡ m → take (m - n) (drop n s) ≡ drop n s
last_part_lem s n m e = take_all (m - n) (drop n s) (omega (arith, length-drop n s))

module _ (h : Head) where
  -- the numbers of streams; n here and below is what the code computed
  pub no_stream : h.streams < 1 → right_streams h ≡ false
  unfolding right_streams
  no_stream l = rw (lt-leb 1 h.streams l)

  pub too_coupled : 1 ≤ h.streams → h.streams < h.coupled → right_streams h ≡ false
  unfolding right_streams
  too_coupled l m = rw (le-leb 1 h.streams l, lt-leb h.coupled h.streams m)

  pub sum_decides : {n : ℕ} → 1 ≤ h.streams → h.coupled ≤ h.streams → n ≡ h.coupled + h.streams → right_streams h ≡ leb n 255
  unfolding right_streams
  sum_decides l m e = rw (e, le-leb 1 h.streams l, le-leb h.coupled h.streams m)

  -- the channel mapping
  pub wrong-channels : allowed_channels h.family h.channels ≡ false → right_mapping h ≡ false
  unfolding right_mapping
  wrong-channels a = rw a

  pub wrong-streams : allowed_channels h.family h.channels ≡ true → right_streams h ≡ false → right_mapping h ≡ false
  unfolding right_mapping
  wrong-streams a b = rw (a, b)

  pub indices_decide : {n m : ℕ} → allowed_channels h.family h.channels ≡ true → right_streams h ≡ true → n ≡ h.coupled + h.streams
      → m ≡ used_count h → right_mapping h ≡ right_indices n (take m h.mapping)
  unfolding right_mapping
  indices_decide a b e d = rw (a, b, e, d)

  -- family 0
  pub with_counts : has_counts h.family ≡ true → right_plain h ≡ true
  unfolding right_plain
  with_counts f = rw f

  module _ (f : has_counts h.family ≡ false) where
    pub other-streams : (h.streams ≡ 1 → ⊥) → right_plain h ≡ false
    unfolding right_plain
    other-streams s = rw (f, ne_eqb h.streams 1 s)

    module _ (s : h.streams ≡ 1) where
      pub coupled_decides : {n : ℕ} → h.channels ≡ 0 → n ≡ h.coupled → right_plain h ≡ eqb n 0
      unfolding right_plain begins
      coupled_decides c e = rw (e, f, eq-eqb h.streams 1 s, c) (and-true (eqb h.coupled 0))

      pub other-coupled : (h.coupled ≡ h.channels - 1 → ⊥) → right_plain h ≡ false
      unfolding right_plain
      other-coupled c = rw (f, eq-eqb h.streams 1 s, ne_eqb h.coupled (h.channels - 1) c)

      pub start_decides : {n : ℕ} → h.coupled ≡ h.channels - 1 → n ≡ min h.channels 2
          → right_plain h ≡ begins (take n plain_indices) h.mapping
      unfolding right_plain
      start_decides c e =
          rw (e, take_min h.channels plain_indices, f, eq-eqb h.streams 1 s, eq-eqb h.coupled (h.channels - 1) c)

  -- all fields but the version
  pub wrong-mapping : right_mapping h ≡ false → right_fields h ≡ false
  unfolding right_fields
  wrong-mapping m = rw m

  pub wrong-plain : right_mapping h ≡ true → right_plain h ≡ false → right_fields h ≡ false
  unfolding right_fields
  wrong-plain m p = rw (m, p)

  -- n is how many places are used
  module _ {n : ℕ} (m : right_mapping h ≡ true) (p : right_plain h ≡ true) (e : n ≡ used_count h) (l : length h.mapping ≡ 255) where
    rest : take (255 - n) (drop n h.mapping) ≡ unused_places h
    rest = rw e (last_part_lem h.mapping (used_count h) 255 l)

    pub wrong_unused : all_zero (take (255 - n) (drop n h.mapping)) ≡ false → right_fields h ≡ false
    unfolding right_fields
    wrong_unused z = rw (m, p, rw rest at z)

    pub size_decides : {k : ℕ} → all_zero (take (255 - n) (drop n h.mapping)) ≡ true → k ≡ head_size h → right_fields h ≡ fits_packet k
    unfolding right_fields
    size_decides z q = rw (m, p, rw rest at z, q)
