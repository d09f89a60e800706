-- What a reading that gave a header has shown: its fields are ones that the writer takes. Assumes nothing.
use mathlib.Core.Path.{◌≡◌, refl}
use mathlib.Core.Bool.{Bool, true, false, ◌&&◌}
use Prim.Native.Nat.{ℕ, ◌+◌, ◌-◌, ◌≤◌}
use native.Mathlib.Omega.{arith}
use borrow.Author.Tests.{leb-true, eqb-true, not-false, eq-eqb}
use lib.Dec.{leb}
use lib.ListN.{length, get_or, take, drop, replicate, length-drop}
use lib.Seq.{length-take-le}
use Rattle.octets.specs.Octets.{Bytes, begins}
use Rattle.octets.proofs.Beginnings.{begins-append}
use Rattle.octets.proofs.Tests.{both}
use Rattle.refusal.proofs.Checks.{no_refusal, passed}
use Rattle.refusal.specs.Checks.{first_of}
use Rattle.refusal.specs.Told.{gives}
use Rattle.head_fields.specs.declared.Head.{Head}
use Rattle.head_reader.specs.Fields.{streams_of, coupled_of, indices_of, places, head_of, matrix_of}
use Rattle.head_fields.specs.Layout.{signature, version_place, channels_place, family_place, streams_place, coupled_place, indices_place}
use Rattle.head_fields.specs.Layout.{matrix_place, start_length, matrix_size, head_size, fits_packet}
use Rattle.head_families.specs.Families.{allowed_channels, has_counts, index_count, matrix_length}
use Rattle.head_fields.specs.Right.{plain_indices, readable_version, may_extend, right_length, used_places, right_streams}
use Rattle.head_fields.specs.Right.{right_indices, right_plain, right_mapping, right_fields, right_head}
use Rattle.head_reader.specs.Reading.{length_of, is_head, read_checks, read_head}
use Rattle.head_reader.specs.Statements.{ReadIsRight}
use Rattle.head_reader.proofs.Mapping.{unused_zero, plain-family, plain-length}

-- a right mapping has as many channels as its family allows
pub allowed : (h : Head) → right_mapping h ≡ true → allowed_channels h.family h.channels ≡ true
unfolding right_mapping
allowed h e =
    (both (allowed_channels h.family h.channels) (right_streams h && right_indices (h.coupled + h.streams) (used_places h)) e).0

-- what the checks of a reader that gave a header have shown
pub record Read (b : Bytes) (h : Head) : Type 0 where
  pub starts : begins signature b ≡ true
  pub version : readable_version (get_or b version_place 0) ≡ true
  pub long : start_length ≤ length b
  pub fits : fits_packet (length_of b) ≡ true
  pub size : right_length (get_or b version_place 0) (length_of b) (length b) ≡ true
  pub mapping : right_mapping (head_of b) ≡ true
  pub given : head_of b ≡ h

pub read : (b : Bytes) (h : Head) → read_head b ≡ gives h → Read b h
unfolding read_head is_head
read b h e =
    let v : ℕ = get_or b version_place 0 in
    let f : Bool = fits_packet (length_of b) in
    let n : Bool = right_length v (length_of b) (length b) in
    let r = no_refusal (first_of (read_checks b)) (head_of b) h e in
    let p = passed _ _ _ r.0 in
    let a = both (begins signature b) (readable_version v && (leb start_length (length b) && (f && n))) (not-false _ p.0) in
    let w = both (readable_version v) (leb start_length (length b) && (f && n)) a.1 in
    let l = both (leb start_length (length b)) (f && n) w.1 in
    let m = both f n l.1 in
    record {
      starts = a.0;
      version = w.0;
      long = leb-true start_length (length b) l.0;
      fits = m.0;
      size = m.1;
      mapping = not-false _ (passed _ _ _ p.1).0;
      given = r.1;
    }

-- of a right length all fields are there, and nothing else where nothing may follow them
fields_fit : (v m n : ℕ) → right_length v m n ≡ true → m ≤ n
unfolding right_length
fields_fit v m n e = either (may_extend v) refl
  where
    either : (t : Bool) → may_extend v ≡ t → m ≤ n
    either true p = leb-true m n (rw p at e)
    either false p = let q : n ≡ m = eqb-true n m (rw p at e) in omega arith

pub only-fields : (v m n : ℕ) → may_extend v ≡ false → right_length v m n ≡ true → n ≡ m
unfolding right_length
only-fields v m n p e = eqb-true n m (rw p at e)

-- the record's length is the one by the bytes as they are
pub same_size : (b : Bytes) → length_of b ≡ head_size (head_of b)
unfolding length_of head_of streams_of coupled_of
same_size b = either (has_counts (get_or b family_place 0)) refl
  where
    either : (t : Bool) → has_counts (get_or b family_place 0) ≡ t → length_of b ≡ head_size (head_of b)
    either true e = rw e
    either false e = rw e

module _ (b : Bytes) (h : Head) (r : Read b h) where
  -- where there are counts, the indices and the matrix follow them
  pub table_fits : has_counts (get_or b family_place 0) ≡ true
      → start_length
      + (2 + (index_count (get_or b family_place 0) (get_or b channels_place 0)
      + matrix_length (get_or b family_place 0) (get_or b streams_place 0) (get_or b coupled_place 0) (get_or b channels_place 0)))
      ≤ length b
  unfolding length_of
  table_fits e = rw e at (fields_fit (get_or b version_place 0) (length_of b) (length b) r.size)

  -- as many indices as the family has
  indices_length : (t : Bool) → has_counts (get_or b family_place 0) ≡ t
      → length (indices_of b) ≡ index_count (get_or b family_place 0) (get_or b channels_place 0)
  unfolding indices_of head_of
  indices_length false e =
      rw e (plain-length (get_or b family_place 0) (get_or b channels_place 0) (allowed (head_of b) r.mapping) e)
  indices_length true e =
      rw e (length-take-le (index_count (get_or b family_place 0) (get_or b channels_place 0)) (drop indices_place b)
      (simp length-drop (omega (arith, table_fits e))))

  pub indexed : length (indices_of b) ≡ index_count (get_or b family_place 0) (get_or b channels_place 0)
  indexed = indices_length (has_counts (get_or b family_place 0)) refl

  -- the matrix is as long as the fields say
  plain-matrix : has_counts (get_or b family_place 0) ≡ false → matrix_size (head_of b) ≡ 0
  unfolding head_of matrix_length
  plain-matrix e = rw (plain-family (get_or b family_place 0) e)

  matrix-length : (t : Bool) → has_counts (get_or b family_place 0) ≡ t → length (matrix_of b) ≡ matrix_size (head_of b)
  unfolding matrix_of head_of streams_of coupled_of
  matrix-length false e = rw (plain-matrix e)
  matrix-length true e =
      let k : ℕ = matrix_length (get_or b family_place 0) (get_or b streams_place 0) (get_or b coupled_place 0) (get_or b channels_place 0) in
      rw e (length-take-le k (drop matrix_place b) (simp length-drop (omega (arith, table_fits e))))

  pub matrix-size : length (matrix_of b) ≡ matrix_size (head_of b)
  matrix-size = matrix-length (has_counts (get_or b family_place 0)) refl

  -- what was read can be written
  plain_right : (t : Bool) → has_counts (get_or b family_place 0) ≡ t → right_plain (head_of b) ≡ true
  unfolding streams_of coupled_of indices_of places head_of right_plain
  plain_right true e = rw e
  plain_right false e =
      let l : Bytes = take (get_or b channels_place 0) plain_indices in
      let zero-family = plain-family (get_or b family_place 0) e in
      rw (zero-family, eq-eqb (get_or b channels_place 0 - 1) (get_or b channels_place 0 - 1) refl)
      (begins-append l (replicate (255 - length l) 0))

  right : right_head (head_of b) ≡ true
  unfolding right_head right_fields head_of
  right =
      rw (
        r.version,
        r.mapping,
        plain_right (has_counts (get_or b family_place 0)) refl,
        unused_zero (index_count (get_or b family_place 0) (get_or b channels_place 0)) (indices_of b) indexed,
      ) (rw (same_size b) at r.fits)

pub read-is_right : ReadIsRight
read-is_right b h o e = let r = read b h e in rw r.given at (right b h r)
