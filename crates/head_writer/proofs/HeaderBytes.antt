-- The bytes of a written header: how long they are, and where each field is. Assumes nothing.
use mathlib.Core.Path.{◌≡◌, refl, ◌∙◌, ap}
use mathlib.Core.Bool.{Bool, true, false}
use mathlib.Core.List.{◌++◌}
use Prim.Native.Nat.{ℕ, ◌+◌, ◌-◌, ◌≤◌}
use native.Mathlib.Omega.{arith}
use borrow.Author.Tests.{eqb-true}
use lib.IntN.{ℤ}
use lib.ListN.{length, get_or, take, drop, length-append}
use lib.Seq.{length-take-le, take_at, take_all}
use mir.Syntax.{w16}
use mir.Val.{to_z, of_z}
use mir.Facts.{to_z-of_z, Fits-of_z}
use Rattle.octets.specs.Octets.{Bytes, begins}
use Rattle.octets.specs.Numbers.{octets, number}
use Rattle.octets.proofs.Numbers.{value-octets}
use Rattle.head_fields.specs.declared.Head.{Head}
use Rattle.head_fields.specs.Widths.{WideFields}
use Rattle.head_families.specs.Families.{has_counts, has_matrix, matrix_length}
use Rattle.head_fields.specs.Layout.{signature, version_place, matrix_place, used_count, matrix_size, head_size}
use Rattle.head_reader.specs.Fields.{streams_of, coupled_of, indices_of, places, head_of, matrix_of}
use Rattle.head_fields.specs.Right.{plain_indices, used_places}
use Rattle.head_writer.specs.Writing.{start_of, head_bytes}

-- ---- how long a header is

pub head-length : (h : Head) (m : Bytes) → used_count h ≤ length h.mapping → length m ≡ matrix_size h
    → length (head_bytes h m) ≡ head_size h
unfolding start_of octets head_bytes
head-length h m less size = either (has_counts h.family) refl
  where
    used : length (used_places h ++ m) ≡ used_count h + matrix_size h
    used = rw (length-append, length-take-le (used_count h) h.mapping less, size)

    either : (t : Bool) → has_counts h.family ≡ t → length (head_bytes h m) ≡ head_size h
    either false e = rw e
    either true e = rw e (omega (arith, used))

-- ---- where its fields are

-- a header by the fields that take some work
same : (h : Head) {p r s c : ℕ} {g : ℤ} {m : Bytes} → p ≡ h.preskip → r ≡ h.rate → g ≡ h.gain → s ≡ h.streams → c ≡ h.coupled → m ≡ h.mapping
    → ◌≡◌ {A = Head}
    (record { version = h.version; channels = h.channels; preskip = p; rate = r; gain = g; family = h.family; streams = s; coupled = c; mapping = m })
    h
same h p r g s c m = rw (p, r, g, s, c, m)

module _ (h : Head) (m : Bytes) where
  pub head-signature : begins signature (head_bytes h m) ≡ true
  unfolding start_of octets head_bytes begins
  head-signature = refl

  pub head-version : get_or (head_bytes h m) version_place 0 ≡ h.version
  unfolding start_of octets head_bytes
  head-version = refl

  module _ (f : WideFields h) where
    -- all of them, where those after the family are right
    all-fields : streams_of (head_bytes h m) ≡ h.streams → coupled_of (head_bytes h m) ≡ h.coupled
        → places (indices_of (head_bytes h m)) ≡ h.mapping → head_of (head_bytes h m) ≡ h
    unfolding start_of octets head_bytes number head_of
    all-fields s c p =
        same h (value-octets 2 h.preskip f.preskip) (value-octets 4 h.rate f.rate)
        (ap (to_z w16) (value-octets 2 (of_z w16 h.gain) (Fits-of_z f.gain).fits) ∙ to_z-of_z f.gain)
        s c p

    -- of family 0
    pub plain-head : has_counts h.family ≡ false → h.streams ≡ 1 → h.coupled ≡ h.channels - 1
        → places (take (used_count h) plain_indices) ≡ h.mapping → head_of (head_bytes h m) ≡ h
    unfolding start_of octets head_bytes streams_of coupled_of indices_of
    plain-head e s c p = all-fields (rw (e, s)) (rw (e, c)) (rw e p)

    -- of the other families
    pub table-head : has_counts h.family ≡ true → used_count h ≤ length h.mapping → places (used_places h) ≡ h.mapping
        → head_of (head_bytes h m) ≡ h
    unfolding start_of octets head_bytes streams_of coupled_of indices_of
    table-head e less p =
        let size = length-take-le (used_count h) h.mapping less in
        let first : take (used_count h) (used_places h ++ m) ≡ used_places h = take_at (used_places h) m (used_count h) size in
        all-fields (rw e) (rw e) (rw (e, first) p)

  -- in family 3 the matrix is all that follows the counts
  after-counts : h.family ≡ 3 → drop matrix_place (head_bytes h m) ≡ m
  unfolding start_of octets head_bytes
  after-counts e = rw e

  no_matrix : has_matrix h.family ≡ false → matrix_size h ≡ 0
  unfolding matrix_length
  no_matrix e = rw e

  -- the matrix, where the fields read back
  pub matrix-back : head_of (head_bytes h m) ≡ h → length m ≡ matrix_size h → matrix_of (head_bytes h m) ≡ m
  unfolding matrix_of
  matrix-back back size =
      ap (λ (k : Head). take (matrix_size k) (drop matrix_place (head_bytes h m))) back ∙ by (has_matrix h.family) refl
    where
      by : (t : Bool) → has_matrix h.family ≡ t → take (matrix_size h) (drop matrix_place (head_bytes h m)) ≡ m
      by true e = rw (after-counts (eqb-true h.family 3 e)) (take_all (matrix_size h) m (omega arith))
      by false e =
          let none = no_matrix e in
          rw none (take_all 0 m (omega arith))
