-- Reading what was written gives it back, and writing what was read does. Assumes nothing.
use mathlib.Core.Path.{◌≡◌, refl, sym, ap, ◌∙◌}
use mathlib.Core.Bool.{Bool, true, false, ◌&&◌}
use mathlib.Core.List.{[], ◌∷◌, ◌++◌, append-nil, append_assoc}
use mathlib.Core.Logic.{◌⊎◌, inl, inr, ⊎_elim}
use Prim.Native.Nat.{ℕ, ◌+◌, ◌-◌, ◌≤◌}
use native.Mathlib.Omega.{arith}
use borrow.Author.Tests.{ltb-false, not-false, eq-eqb, eqb-true, le-leb}
use lib.Dec.{eqb}
use lib.ListN.{length, get_or, take, drop, length-append, length-drop, length-replicate, take-append-drop, drop_of_length-le}
use lib.Seq.{take_all, take-length, take-append_seam}
use mir.Syntax.{w16}
use mir.Val.{to_z, of_z}
use mir.Facts.{sfits_to_z, of_z-to_z}
use Rattle.octets.specs.Pick.{pick}
use Rattle.octets.specs.Octets.{Bytes, Octets, begins}
use Rattle.octets.specs.Numbers.{octets, number}
use Rattle.octets.proofs.Copying.{copied-fits}
use Rattle.octets.proofs.Fields.{field_fits, field, byte}
use Rattle.octets.proofs.Beginnings.{begins-take}
use Rattle.octets.proofs.Tests.{both, equal-and}
use Rattle.refusal.proofs.Checks.{no_refusal, passed}
use Rattle.refusal.specs.Checks.{first_of}
use Rattle.refusal.specs.Told.{gives}
use Rattle.head_fields.specs.declared.Head.{Head}
use Rattle.head_fields.specs.Widths.{WideFields}
use Rattle.head_fields.specs.Layout.{signature, version_place, channels_place, preskip_place, rate_place, gain_place, family_place}
use Rattle.head_fields.specs.Layout.{streams_place, coupled_place, indices_place, start_length, fits_packet}
use Rattle.head_fields.specs.Layout.{used_count, matrix_size, head_size}
use Rattle.head_families.specs.Families.{has_counts, has_matrix, index_count, matrix_length}
use Rattle.head_reader.specs.Fields.{streams_of, coupled_of, indices_of, places, head_of, matrix_of}
use Rattle.head_fields.specs.Right.{readable_version, written_version, may_extend, right_length, plain_indices, unused_places, used_places, all_zero}
use Rattle.head_fields.specs.Right.{right_streams, right_plain, right_mapping, right_fields, right_head, writable_head}
use Rattle.head_reader.specs.Reading.{length_of, is_head, read_head, read_matrix}
use Rattle.head_reader.proofs.Mapping.{used_places_lem, places_used, channels-most, plain-family, plain-length}
use Rattle.head_reader.proofs.Places.{table_indices}
use Rattle.head_reader.proofs.ReadRight.{Read, allowed, read, only-fields, same_size, indexed, table_fits, matrix-size, read-is_right}
use Rattle.head_writer.specs.Writing.{start_of, head_bytes, write_checks, write_told, write_out}
use Rattle.head_writer.specs.Statements.{ReadsAs, ReadsBack, WritesBack, as_written, WritesAnyVersion}
use Rattle.head_writer.proofs.Answers.{writable}
use Rattle.head_writer.proofs.HeaderBytes.{head-length, head-signature, head-version, plain-head, table-head, matrix-back}

-- ---- reading what was written

-- a header's parts are right
record Sound (h : Head) : Type 0 where
  version : h.version ≡ written_version
  mapping : right_mapping h ≡ true
  plain : right_plain h ≡ true
  zeros : all_zero (unused_places h) ≡ true
  fits : fits_packet (head_size h) ≡ true

sound : (h : Head) → writable_head h ≡ true → Sound h
unfolding writable_head right_fields
sound h e =
    let z : Bool = all_zero (unused_places h) in
    let f : Bool = fits_packet (head_size h) in
    let a = equal-and h.version written_version (right_mapping h && (right_plain h && (z && f))) e in
    let b = both (right_mapping h) (right_plain h && (z && f)) a.1 in
    let c = both (right_plain h) (z && f) b.1 in
    let d = both z f c.1 in
    record { version = a.0; mapping = b.0; plain = c.0; zeros = d.0; fits = d.1 }

-- no more indices than channels
few_used : (f c : ℕ) → c ≤ 255 → index_count f c ≤ 255
few_used f c h = by (has_matrix f) refl
  where
    by : (t : Bool) → has_matrix f ≡ t → index_count f c ≤ 255
    by true e = rw e (omega arith)
    by false e = rw e h

module _ (h : Head) (m : Bytes) (f : WideFields h) (long : length h.mapping ≡ 255) (sized : length m ≡ matrix_size h) (s : Sound h) where
  few : used_count h ≤ 255
  few = few_used h.family h.channels (channels-most h.family h.channels (allowed h s.mapping))

  mapped : places (used_places h) ≡ h.mapping
  mapped = places_used (used_count h) h.mapping long few s.zeros

  whole : length (head_bytes h m) ≡ head_size h
  whole = head-length h m (omega (arith, few)) sized

  same_head : (t : Bool) → has_counts h.family ≡ t → head_of (head_bytes h m) ≡ h
  unfolding right_plain
  same_head true e = table-head h m f e (omega (arith, few)) mapped
  same_head false e =
      let l : Bytes = take h.channels plain_indices in
      let a = equal-and h.streams 1 (eqb h.coupled (h.channels - 1) && begins l h.mapping) (rw e at s.plain) in
      let b = equal-and h.coupled (h.channels - 1) (begins l h.mapping) a.1 in
      let zero-family = plain-family h.family e in
      let used : used_count h ≡ h.channels = rw zero-family in
      let size : length l ≡ h.channels = rw used at (plain-length h.family h.channels (allowed h s.mapping) e) in
      let begun : take h.channels h.mapping ≡ l = rw size at (begins-take l h.mapping b.1) in
      plain-head h m f e a.0 b.0 (rw used (rw (used, begun) at mapped))

  back : head_of (head_bytes h m) ≡ h
  back = same_head (has_counts h.family) refl

  one-head : is_head (head_bytes h m) ≡ true
  unfolding is_head right_length
  one-head =
      rw (
        head-signature h m,
        head-version h m,
        same_size (head_bytes h m),
        back,
        whole,
        s.version,
        s.fits,
        le-leb start_length (head_size h) (omega arith),
        eq-eqb (head_size h) (head_size h) refl,
      )

  same_read : ReadsAs (head_bytes h m) h m
  unfolding read_head read_matrix first_of
  same_read = record {
    fields = rw (one-head, back, s.mapping);
    matrix = rw (one-head, back, s.mapping, matrix-back h m back sized);
  }

pub reads-back : ReadsBack
unfolding write_told write_out
reads-back h m out f long e =
    let clear = (no_refusal (first_of (write_checks h m (length out))) (head_size h) (head_size h) e).0 in
    let p = passed _ _ _ clear in
    let w = both (writable_head h) (eqb (length m) (matrix_size h)) (not-false _ p.0) in
    let s = sound h w.0 in
    let sized = eqb-true (length m) (matrix_size h) w.1 in
    let room : head_size h ≤ length out = ltb-false _ _ (passed _ _ _ p.1).0 in
    let n : length (head_bytes h m) ≡ head_size h = whole h m f long sized s in
    rw (clear, copied-fits out 0 (head_bytes h m) (omega arith), ← n, take-length, take-append_seam) (same_read h m f long sized s)

-- ---- writing what was read

-- what a reading could have given is written, if it has the right version
may_write : (h : Head) → h.version ≡ written_version → right_head h ≡ true → writable_head h ≡ true
unfolding right_head writable_head
may_write h one e = rw (eq-eqb h.version written_version one) (both (readable_version h.version) (right_fields h) e).1

signed_field : (at : ℕ) (b : Bytes) → Octets b → at + 2 ≤ length b → octets 2 (of_z w16 (to_z w16 (number 2 b at))) ++ drop (at + 2) b ≡ drop at b
signed_field at b o h = rw (of_z-to_z {w = w16} (record { fits = field_fits 2 at b o h })) (field 2 at b o h)

-- there are indices or a matrix, and not both
one_of : (f s c n : ℕ) → (index_count f n ≡ 0) ⊎ (matrix_length f s c n ≡ 0)
unfolding matrix_length
one_of f s c n = by (has_matrix f) refl
  where
    by : (t : Bool) → has_matrix f ≡ t → (index_count f n ≡ 0) ⊎ (matrix_length f s c n ≡ 0)
    by true e = inl (rw e)
    by false e = inr (rw e)

two-parts : (u k : ℕ) (s : Bytes) → (u ≡ 0) ⊎ (k ≡ 0) → length s ≡ u + k → take u s ++ take k s ≡ s
two-parts u k s either size =
    ⊎_elim
    (λ (e : u ≡ 0). rw e (take_all k s (omega arith)))
    (λ (e : k ≡ 0). rw e (append-nil (take u s) ∙ take_all u s (omega arith)))
    either

module _ (b : Bytes) (h : Head) (r : Read b h) (exact : length b ≡ length_of b) where
  -- the indices and the matrix are all that follows the counts
  after-counts : has_counts (get_or b family_place 0) ≡ true → used_places (head_of b) ++ matrix_of b ≡ drop indices_place b
  unfolding length_of head_of streams_of coupled_of matrix_of
  after-counts e =
      let n : ℕ = get_or b channels_place 0 in
      let f : ℕ = get_or b family_place 0 in
      let u : ℕ = index_count f n in
      let k : ℕ = matrix_length f (get_or b streams_place 0) (get_or b coupled_place 0) n in
      let size : length b ≡ start_length + (2 + (u + k)) = rw e at exact in
      let rest : length (drop indices_place b) ≡ u + k = simp length-drop (omega arith) in
      rw (used_places_lem u (indices_of b) (indexed b h r), table_indices b e, e)
      (two-parts u k (drop indices_place b) (one_of f (get_or b streams_place 0) (get_or b coupled_place 0) n) rest)

  -- the table is at the end
  ended : (t : Bool) → has_counts (get_or b family_place 0) ≡ t
      → pick (has_counts (get_or b family_place 0)) (streams_of b ∷ coupled_of b ∷ (used_places (head_of b) ++ matrix_of b)) []
      ≡ drop start_length b
  unfolding length_of streams_of coupled_of
  ended false e =
      let size : length b ≡ start_length = rw e at exact in
      rw e (sym (drop_of_length-le b {i = start_length} (omega arith)))
  ended true e =
      let size = table_fits b h r e in
      rw (after-counts e, e, byte coupled_place (get_or b coupled_place 0) b refl (omega arith), byte streams_place (get_or b streams_place 0) b refl (omega arith))

  rebuilt : Octets b → head_bytes (head_of b) (matrix_of b) ≡ b
  unfolding head_bytes start_of head_of
  rebuilt o =
      let start : take 8 b ≡ signature = begins-take signature b r.starts in
      simp append_assoc
      (rw (
        ended (has_counts (get_or b family_place 0)) refl,
        byte family_place (get_or b family_place 0) b refl (omega arith),
        signed_field gain_place b o (omega arith),
        field 4 rate_place b o (omega arith),
        field 2 preskip_place b o (omega arith),
        byte channels_place (get_or b channels_place 0) b refl (omega arith),
        byte version_place (get_or b version_place 0) b refl (omega arith),
      ) (rw start at (take-append-drop 8 b)))

pub writes_back : WritesBack
unfolding head_of write_told write_out
writes_back b out h o e one room =
    let r = read b h e in
    let first : get_or b version_place 0 ≡ written_version = ap (λ (k : Head). k.version) r.given ∙ one in
    let exact = only-fields (get_or b version_place 0) (length_of b) (length b) (ap may_extend first) r.size in
    let same : head_bytes h (matrix_of b) ≡ b = rw r.given at (rebuilt b h r exact o) in
    let size : length b ≡ head_size h = exact ∙ same_size b ∙ ap head_size r.given in
    let sized : length (matrix_of b) ≡ matrix_size h = matrix-size b h r ∙ ap matrix_size r.given in
    let clear = writable h (matrix_of b) out (may_write h one (read-is_right b h o e)) sized refl (omega arith) in
    record { told = rw clear (ap gives (sym size)); output = rw (clear, same) }

-- ---- any version

module _ (b : Bytes) (h : Head) (o : Octets b) (r : Read b h) where
  wide : WideFields (head_of b)
  unfolding head_of
  wide = record {
    preskip = field_fits 2 preskip_place b o (omega arith);
    rate = field_fits 4 rate_place b o (omega arith);
    gain = sfits_to_z (record { fits = field_fits 2 gain_place b o (omega arith) });
  }

  mapping-length : length (head_of b).mapping ≡ 255
  unfolding head_of places
  mapping-length =
      let most = channels-most (get_or b family_place 0) (get_or b channels_place 0) (allowed (head_of b) r.mapping) in
      let few = few_used (get_or b family_place 0) (get_or b channels_place 0) most in
      let size = indexed b h r in
      simp (length-append, length-replicate) (omega arith)

rightly_written : (h : Head) → right_head h ≡ true → writable_head (as_written h) ≡ true
unfolding right_head writable_head right_fields right_mapping right_streams right_plain
rightly_written h e = (both (readable_version h.version) (right_fields h) e).1

pub writes_any_version : WritesAnyVersion
unfolding write_told
writes_any_version b out h o e room =
    let r = read b h e in
    let w : WideFields h = rw r.given at (wide b h o r) in
    let fields : WideFields (as_written h) = record { preskip = w.preskip; rate = w.rate; gain = w.gain } in
    let long : length h.mapping ≡ 255 = rw r.given at (mapping-length b h o r) in
    let sized : length (matrix_of b) ≡ matrix_size h = matrix-size b h r ∙ ap matrix_size r.given in
    let clear = writable (as_written h) (matrix_of b) out (rightly_written h (read-is_right b h o e)) sized refl room in
    let wrote : write_told (as_written h) (matrix_of b) out ≡ gives (head_size h) = rw clear in
    record { told = wrote; same = reads-back (as_written h) (matrix_of b) out fields long wrote }
