-- Bytes after the fields of a header reach none of them. Assumes nothing.
use mathlib.Core.Path.{◌≡◌, refl, sym, ap, ◌∙◌}
use mathlib.Core.Bool.{Bool, true, false}
use mathlib.Core.List.{[], ◌∷◌, ◌++◌}
use Prim.Native.Nat.{ℕ, ◌+◌, ◌≤◌, ◌<◌}
use native.Mathlib.Nat.{le_of_suc-le-suc, not-suc-le-zero}
use native.Mathlib.Omega.{arith}
use borrow.Author.Tests.{le-leb}
use lib.ListN.{length, get_or, take, drop, length-append, length-drop, get_or-append}
use lib.Seq.{take-append-le, drop-append-le}
use Rattle.octets.specs.Octets.{Bytes, begins}
use Rattle.octets.specs.Numbers.{value, number}
use Rattle.head_fields.specs.Layout.{signature, version_place, channels_place, preskip_place, rate_place, gain_place, family_place}
use Rattle.head_fields.specs.Layout.{streams_place, coupled_place, indices_place, start_length}
use Rattle.head_families.specs.Families.{has_counts, index_count, matrix_length}
use Rattle.head_fields.specs.Right.{may_extend, right_length}
use Rattle.head_reader.specs.Fields.{streams_of, coupled_of, indices_of, head_of}
use Rattle.head_reader.specs.Reading.{length_of, is_head, read_head}
use Rattle.head_reader.specs.Statements.{ExtraIgnored}

begins-before : (p b x : Bytes) → length p ≤ length b → begins p (b ++ x) ≡ begins p b
unfolding begins
begins-before [] b x h = refl
begins-before (a ∷ p) [] x h = absurd (not-suc-le-zero h)
begins-before (a ∷ p) (c ∷ b) x h = rw (begins-before p b x (le_of_suc-le-suc h))

module _ (b x : Bytes) where
  part : (n at : ℕ) → at + n ≤ length b → take n (drop at (b ++ x)) ≡ take n (drop at b)
  part n at h =
      ap (take n) (drop-append-le at b x (omega arith)) ∙ take-append-le n (drop at b) x (simp length-drop (omega arith))

  number-before : (n at : ℕ) → at + n ≤ length b → number n (b ++ x) at ≡ number n b at
  unfolding number
  number-before n at h = ap value (part n at h)

  byte-before : (i : ℕ) → i < length b → get_or (b ++ x) i 0 ≡ get_or b i 0
  byte-before i h = get_or-append b x 0 i h

  module _ (size : length b ≡ length_of b) where
    long : start_length ≤ length b
    unfolding length_of
    long = omega arith

    same-family : get_or (b ++ x) family_place 0 ≡ get_or b family_place 0
    same-family = byte-before family_place (omega (arith, long))

    same-channels : get_or (b ++ x) channels_place 0 ≡ get_or b channels_place 0
    same-channels = byte-before channels_place (omega (arith, long))

    same_version : get_or (b ++ x) version_place 0 ≡ get_or b version_place 0
    same_version = byte-before version_place (omega (arith, long))

    -- ---- by the family

    module _ (e : has_counts (get_or b family_place 0) ≡ true) where
      with_counts : indices_place + index_count (get_or b family_place 0) (get_or b channels_place 0) ≤ length b
      unfolding length_of
      with_counts =
          let table : length b ≡
          start_length
          + (2 + (index_count (get_or b family_place 0) (get_or b channels_place 0)
          + matrix_length (get_or b family_place 0) (get_or b streams_place 0) (get_or b coupled_place 0) (get_or b channels_place 0)))
          = rw e at size in
          omega arith

      streams-byte : get_or (b ++ x) streams_place 0 ≡ get_or b streams_place 0
      streams-byte = byte-before streams_place (omega (arith, with_counts))

      coupled-byte : get_or (b ++ x) coupled_place 0 ≡ get_or b coupled_place 0
      coupled-byte = byte-before coupled_place (omega (arith, with_counts))

    same-streams : (t : Bool) → has_counts (get_or b family_place 0) ≡ t → streams_of (b ++ x) ≡ streams_of b
    unfolding streams_of
    same-streams false e = rw (same-family, e)
    same-streams true e = rw (same-family, e, streams-byte e)

    same-coupled : (t : Bool) → has_counts (get_or b family_place 0) ≡ t → coupled_of (b ++ x) ≡ coupled_of b
    unfolding coupled_of
    same-coupled false e = rw (same-family, same-channels, e)
    same-coupled true e = rw (same-family, e, coupled-byte e)

    same_indices : (t : Bool) → has_counts (get_or b family_place 0) ≡ t → indices_of (b ++ x) ≡ indices_of b
    unfolding indices_of
    same_indices false e = rw (same-family, same-channels, e)
    same_indices true e =
        rw (
          same-family,
          same-channels,
          e,
          part (index_count (get_or b family_place 0) (get_or b channels_place 0)) indices_place (with_counts e),
        )

    same_length : (t : Bool) → has_counts (get_or b family_place 0) ≡ t → length_of (b ++ x) ≡ length_of b
    unfolding length_of
    same_length false e = rw (same-family, same-channels, e)
    same_length true e = rw (same-family, same-channels, streams-byte e, coupled-byte e)

    -- ---- the whole

    same_head : head_of (b ++ x) ≡ head_of b
    unfolding head_of
    same_head =
        rw (
          same_version,
          same-channels,
          same-family,
          number-before 2 preskip_place (omega (arith, long)),
          number-before 4 rate_place (omega (arith, long)),
          number-before 2 gain_place (omega (arith, long)),
          same-streams (has_counts (get_or b family_place 0)) refl,
          same-coupled (has_counts (get_or b family_place 0)) refl,
          same_indices (has_counts (get_or b family_place 0)) refl,
        )

    same_test : may_extend (get_or b version_place 0) ≡ true → is_head (b ++ x) ≡ is_head b
    unfolding is_head right_length
    same_test v =
        let more : length (b ++ x) ≡ length b + length x = length-append b x in
        rw (
          begins-before signature b x (omega (arith, long)),
          same_version,
          same_length (has_counts (get_or b family_place 0)) refl,
          v,
          le-leb start_length (length (b ++ x)) (omega (arith, long, more)),
          le-leb start_length (length b) long,
          le-leb (length_of b) (length (b ++ x)) (omega (arith, more, size)),
          le-leb (length_of b) (length b) (omega (arith, size)),
        )

    pub same-reading : may_extend (get_or b version_place 0) ≡ true → read_head (b ++ x) ≡ read_head b
    unfolding read_head
    same-reading v = rw (same_test v, same_head)

pub extra_ignored : ExtraIgnored
extra_ignored b x y v size = same-reading b x size v ∙ sym (same-reading b y size v)
