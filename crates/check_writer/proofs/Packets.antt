-- The two headers that the writers make: they are read, and fit a packet. Assumes nothing.
use Prim.Native.Nat.{ℕ, ◌≤◌}
use mathlib.Core.Path.{◌≡◌, refl, ap}
use mathlib.Core.Bool.{true, ◌&&◌}
use mathlib.Core.List.{[]}
use mathlib.Core.Option.{none}
use native.Mathlib.Omega.{arith}
use borrow.Author.Tests.{not-false, leb-true, le-ltb}
use lib.Dec.{eqb}
use lib.ListN.{length, replicate, length-take, length-replicate}
use Rattle.octets.specs.Octets.{Bytes, total}
use Rattle.octets.proofs.Tests.{both}
use Rattle.limits.specs.Limits.{packet_max}
use Rattle.refusal.specs.Checks.{first_of}
use Rattle.refusal.specs.Told.{gives}
use Rattle.refusal.proofs.Checks.{no_refusal, passed}
use Rattle.utf8.specs.Characters.{utf8}
use Rattle.head_fields.specs.declared.Head.{Head}
use Rattle.head_fields.specs.Layout.{matrix_size, head_size, fits_packet}
use Rattle.head_fields.specs.Right.{writable_version, writable_head, right_fields, right_mapping, right_plain, all_zero, unused_places}
use Rattle.head_fields.specs.Widths.{WideFields}
use Rattle.head_reader.specs.Fields.{head_of}
use Rattle.head_reader.specs.Reading.{is_head, read_checks as head_checks, read_head}
use Rattle.head_writer.specs.Writing.{writable_with, write_checks as headWriteChecks, write_told, write_out}
use Rattle.head_writer.proofs.RoundTrip.{reads-back}
use Rattle.tags_layout.specs.Layout.{Tags, tags_of}
use Rattle.tags_rules.specs.Right.{right_comments, all_right, occurrences}
use Rattle.tags_reader.specs.Right.{right_tags, is_tags}
use Rattle.tags_reader.specs.Reading.{read_tags}
use Rattle.tags_writer.specs.Writing as Tagging
use Rattle.tags_writer.specs.Writing.{given, cut_by}
use Rattle.tags_writer.proofs.Laying.{length-packet}
use Rattle.tags_writer.proofs.RoundTrip as TagsBack
use Rattle.check_writer.specs.Written.{head_packet, tags_size, tags_packet}

-- ---- the identification header

module _ (h : Head) (m : Bytes) (wide : WideFields h) (long : length h.mapping ≡ 255) (right : writable_with h m ≡ true) where
  abbrev out : Bytes
  out = replicate (head_size h) 0

  clear : first_of (headWriteChecks h m (length out)) ≡ none
  unfolding first_of
  clear = rw (right, length-replicate {A = ℕ} (head_size h) 0, le-ltb (head_size h) (head_size h) (omega arith)) refl

  told : write_told h m out ≡ gives (head_size h)
  unfolding write_told
  told = rw clear refl

  reads : read_head (head_packet h m) ≡ gives h
  unfolding head_packet
  reads = (reads-back h m out wide long told).fields

  checks : (first_of (head_checks (head_packet h m)) ≡ none) × (head_of (head_packet h m) ≡ h)
  unfolding read_head
  checks = no_refusal (first_of (head_checks (head_packet h m))) (head_of (head_packet h m)) h reads

  pub head-is : head_of (head_packet h m) ≡ h
  head-is = checks.1

  pub head_right : is_head (head_packet h m) ≡ true
  head_right = not-false _ (passed _ _ _ checks.0).0

  pub head_mapped : right_mapping (head_of (head_packet h m)) ≡ true
  head_mapped = not-false _ (passed _ _ _ (passed _ _ _ checks.0).1).0

  fits : head_size h ≤ packet_max
  unfolding writable_head right_fields
  fits =
      let a = (both (writable_head h) (eqb (length m) (matrix_size h)) right).0 in
      let b = (both (writable_version h.version) (right_fields h) a).1 in
      let c = (both (right_mapping h) (right_plain h && (all_zero (unused_places h) && fits_packet (head_size h))) b).1 in
      let d = (both (right_plain h) (all_zero (unused_places h) && fits_packet (head_size h)) c).1 in
      leb-true (head_size h) packet_max (both (all_zero (unused_places h)) (fits_packet (head_size h)) d).1

  pub head-short : length (head_packet h m) ≤ packet_max
  unfolding head_packet
  head-short = omega (arith, fits, length-take (head_size h) (write_out h m out))

-- ---- the comment header

module _ (vendor : Bytes) (text : utf8 vendor ≡ true) (room : length vendor ≤ 61424) where
  abbrev space : Bytes
  space = replicate (tags_size vendor) 0

  size : tags_size vendor ≤ packet_max
  unfolding total
  size = omega (arith, length-packet vendor [] [] refl)

  tags_clear : first_of (Tagging.write_checks vendor [] [] (length space)) ≡ none
  unfolding first_of total right_tags right_comments all_right occurrences cut_by
  tags_clear =
      rw (text, le-ltb packet_max (tags_size vendor) size, length-replicate {A = ℕ} (tags_size vendor) 0, le-ltb (tags_size vendor) (tags_size vendor) (omega arith)) refl

  tags-told : Tagging.write_told vendor [] [] space ≡ gives (tags_size vendor)
  unfolding Tagging.write_told
  tags-told = rw tags_clear refl

  tags-read : read_tags (tags_packet vendor) ≡ gives (given vendor [] [])
  unfolding tags_packet
  tags-read = TagsBack.reads-back vendor [] [] space (tags_size vendor) tags-told

  tags_checks : (is_tags (tags_packet vendor) ≡ true) × (tags_of (tags_packet vendor) ≡ given vendor [] [])
  unfolding read_tags
  tags_checks =
      let k = no_refusal _ (tags_of (tags_packet vendor)) (given vendor [] []) tags-read in
      (not-false _ (passed _ _ _ k.0).0, k.1)

  pub tags_right : is_tags (tags_packet vendor) ≡ true
  tags_right = tags_checks.0

  pub no_comments : (tags_of (tags_packet vendor)).comments ≡ []
  unfolding cut_by
  no_comments = ap (λ (t : Tags). t.comments) tags_checks.1

  pub tags-short : length (tags_packet vendor) ≤ packet_max
  unfolding tags_packet
  tags-short = omega (arith, size, length-take (tags_size vendor) (Tagging.write_out vendor [] [] space))
