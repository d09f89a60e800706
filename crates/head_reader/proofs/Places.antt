-- The fields of an identification header by its family, the 255 places of the mapping, and the ways of testing a header.
-- Assumes nothing.
use mathlib.Core.Path.{◌≡◌, refl, ap, ◌∙◌}
use mathlib.Core.Bool.{true, false}
use mathlib.Core.List.{[], ◌∷◌, ◌++◌}
use Prim.Native.Nat.{ℕ, zero, suc, ◌-◌, ◌≤◌, ◌<◌}
use native.Mathlib.Nat.{sub-zero, zero-sub, suc-sub-suc}
use native.Mathlib.Omega.{arith}
use borrow.Author.Tests.{lt-leb, le-leb}
use lib.ListN.{length, get_or, take, drop, replicate, length-replicate, length-take}
use lib.Seq.{take_all}
use Rattle.octets.specs.Octets.{Bytes, begins, copied}
use Rattle.octets.proofs.Copying.{copied_next}
use Rattle.limits.specs.Limits.{packet_max}
use Rattle.head_reader.specs.Fields.{streams_of, coupled_of, indices_of, places}
use Rattle.head_families.specs.Families.{has_counts, index_count}
use Rattle.head_fields.specs.Right.{plain_indices, readable_version, right_length}
use Rattle.head_fields.specs.Layout.{signature, version_place, channels_place, family_place, streams_place, coupled_place, indices_place, start_length}
use Rattle.head_reader.specs.Reading.{length_of, is_head}

-- ---- by the family

module _ (b : Bytes) where
  module _ (table : has_counts (get_or b family_place 0) ≡ true) where
    pub table-streams : streams_of b ≡ get_or b streams_place 0
    unfolding streams_of
    table-streams = rw table

    pub table-coupled : coupled_of b ≡ get_or b coupled_place 0
    unfolding coupled_of
    table-coupled = rw table

    pub table_indices : indices_of b ≡ take (index_count (get_or b family_place 0) (get_or b channels_place 0)) (drop indices_place b)
    unfolding indices_of
    table_indices = rw table

  module _ (plain : has_counts (get_or b family_place 0) ≡ false) where
    pub plain-streams : streams_of b ≡ 1
    unfolding streams_of
    plain-streams = rw plain

    pub plain-coupled : coupled_of b ≡ get_or b channels_place 0 - 1
    unfolding coupled_of
    plain-coupled = rw plain

    pub plain_indices_lem : indices_of b ≡ take (index_count (get_or b family_place 0) (get_or b channels_place 0)) plain_indices
    unfolding indices_of
    plain_indices_lem = rw plain

-- ---- the places of the mapping

drop-replicate : (m n a : ℕ) → drop m (replicate n a) ≡ replicate (n - m) a
drop-replicate zero n a = rw sub-zero
drop-replicate (suc m) zero a = rw zero-sub
drop-replicate (suc m) (suc n) a = rw suc-sub-suc (drop-replicate m n a)

-- a copy to the front of zeros
copied_front : (n : ℕ) (s : Bytes) → length s ≤ n → copied (replicate n 0) 0 s ≡ s ++ replicate (n - length s) 0
copied_front n s h =
    copied_next (replicate n 0) [] s (omega (arith, length-replicate {A = ℕ} n 0)) ∙ ap (λ (z : Bytes). s ++ z) (drop-replicate (length s) n 0)

-- the indices of a table
pub from-table : (b : Bytes) (n : ℕ) → n ≤ 255 → n ≡ index_count (get_or b family_place 0) (get_or b channels_place 0)
    → has_counts (get_or b family_place 0) ≡ true
    → copied (replicate 255 0) 0 (take n (drop indices_place b)) ≡ places (indices_of b)
unfolding places
from-table b n h e table =
    rw (table_indices b table, ← e) (copied_front 255 (take n (drop indices_place b)) (simp length-take (omega arith)))

-- those of family 0: from two channels on, and below
pub from-two : (b : Bytes) (n : ℕ) → 1 < n → n ≡ index_count (get_or b family_place 0) (get_or b channels_place 0)
    → has_counts (get_or b family_place 0) ≡ false → 0 ∷ 1 ∷ replicate 253 0 ≡ places (indices_of b)
unfolding places
from-two b n h e plain = rw (plain_indices_lem b plain, ← e, take_all n plain_indices h)

below_two : (n : ℕ) → n ≤ 1 → replicate 255 0 ≡ places (take n plain_indices)
unfolding places
below_two zero h = refl
below_two (suc zero) h = refl
below_two (suc (suc n)) h = absurd (omega arith)

pub from_one : (b : Bytes) (n : ℕ) → n ≤ 1 → n ≡ index_count (get_or b family_place 0) (get_or b channels_place 0)
    → has_counts (get_or b family_place 0) ≡ false → replicate 255 0 ≡ places (indices_of b)
from_one b n h e plain = rw (plain_indices_lem b plain, ← e) (below_two n h)

-- ---- the tests of a header

module _ (b : Bytes) where
  pub no_signature : begins signature b ≡ false → is_head b ≡ false
  unfolding is_head
  no_signature s = rw s

  module _ (s : begins signature b ≡ true) where
    pub other-version : readable_version (get_or b version_place 0) ≡ false → is_head b ≡ false
    unfolding is_head
    other-version v = rw (s, v)

    module _ (v : readable_version (get_or b version_place 0) ≡ true) where
      pub short-head : length b < start_length → is_head b ≡ false
      unfolding is_head
      short-head h = rw (s, v, lt-leb start_length (length b) h)

      module _ (h : start_length ≤ length b) where
        pub long-head : packet_max < length_of b → is_head b ≡ false
        unfolding is_head
        long-head l = rw (s, v, le-leb start_length (length b) h, lt-leb (length_of b) packet_max l)

        pub length_decides : length_of b ≤ packet_max → is_head b ≡ right_length (get_or b version_place 0) (length_of b) (length b)
        unfolding is_head
        length_decides l = rw (s, v, le-leb start_length (length b) h, le-leb (length_of b) packet_max l)
