-- Which fields the writer takes, and what it tells and leaves. Assumes nothing.
use Rattle.std.specs.Prelude.{Ok, Err}
use mathlib.Core.Path.{◌≡◌, refl, sym, ap}
use mathlib.Core.Bool.{Bool, true, false, ◌&&◌}
use mathlib.Core.List.{List}
use mathlib.Core.Option.{none, some}
use Prim.Native.Nat.{ℕ, ◌≤◌, ◌<◌}
use native.Mathlib.Omega.{arith}
use borrow.Author.Tests.{lt-ltb, le-ltb, le-leb, lt-leb, leb-true, leb-false, eqb-true}
use lib.Dec.{leb, eqb}
use lib.ListN.{length}
use Rattle.octets.specs.Octets.{Bytes, total, copied}
use Rattle.octets.proofs.Tests.{both}
use Rattle.limits.specs.Limits.{packet_max}
use Rattle.utf8.specs.Characters.{utf8}
use Rattle.refusal.specs.declared.Refusal.TheVariants.{ShortOutput, UnfitFields}
use Rattle.refusal.specs.Checks.{first_of}
use Rattle.refusal.specs.Told.{gives}
use Rattle.tags_rules.specs.Right.{right_comments}
use Rattle.tags_reader.specs.Right.{right_tags}
use Rattle.tags_writer.specs.Writing.{cut_by, given, packet_of, write_checks, write_told, write_out, Wrote}
use Rattle.tags_rules.specs.Code.{right_from}
use Rattle.tags_writer.specs.Code.{right_lengths, packet_size, right_fields}
use Rattle.tags_rules.proofs.Counting.{and-false, judging_tells}
use Rattle.tags_writer.proofs.Laying.{length-packet}

module _ (vendor text : Bytes) (ns : List ℕ) where
  abbrev sums : Bool
  sums = eqb (total ns) (length text)

  abbrev size : ℕ
  size = packet_size vendor text ns

  -- the packet is as long as its parts, where the lengths sum to the text
  packet-size : sums ≡ true → length (packet_of vendor text ns) ≡ size
  packet-size e = length-packet vendor text ns (eqb-true (total ns) (length text) e)

  -- ---- the test that the code makes

  pub too_big : packet_max < size → right_fields vendor text ns ≡ false
  unfolding right_fields
  too_big h = by sums refl
    where
      by : (t : Bool) → sums ≡ t → t && (leb (length (packet_of vendor text ns)) packet_max && right_tags (given vendor text ns)) ≡ false
      by true e = rw (lt-leb (length (packet_of vendor text ns)) packet_max (omega (arith, packet-size e)))
      by false e = refl

  pub wrong-vendor : utf8 vendor ≡ false → right_fields vendor text ns ≡ false
  unfolding right_fields right_tags
  wrong-vendor e = rw (e, and-false (leb (length (packet_of vendor text ns)) packet_max)) (and-false sums)

  pub lengths_decide : utf8 vendor ≡ true → size ≤ packet_max → right_lengths text ns ≡ right_fields vendor text ns
  unfolding right_lengths right_fields right_tags
  lengths_decide e h = rw e (by sums refl)
    where
      by : (t : Bool) → sums ≡ t
          → t && right_from false false (cut_by ns text) ≡ t && (leb (length (packet_of vendor text ns)) packet_max && right_comments (cut_by ns text))
      by true p = rw (le-leb (length (packet_of vendor text ns)) packet_max (omega (arith, packet-size p))) (judging_tells (cut_by ns text))
      by false p = refl

  -- ---- what follows from it

  -- each of the three tests
  tested : right_fields vendor text ns ≡ true → (sums ≡ true) × (length (packet_of vendor text ns) ≤ packet_max) × (right_tags (given vendor text ns) ≡ true)
  unfolding right_fields
  tested e =
      let n : ℕ = length (packet_of vendor text ns) in
      let right : Bool = right_tags (given vendor text ns) in
      let first = both sums (leb n packet_max && right) e in
      let second = both (leb n packet_max) right first.1 in
      (first.0, leb-true n packet_max second.0, second.1)

  pub sums_right : right_fields vendor text ns ≡ true → total ns ≡ length text
  sums_right e = eqb-true (total ns) (length text) (tested e).0

  pub size_right : right_fields vendor text ns ≡ true → (length (packet_of vendor text ns) ≡ size) × (size ≤ packet_max)
  size_right e = let same = packet-size (tested e).0 in (same, omega (arith, same, (tested e).1))

  unfit : right_fields vendor text ns ≡ false → (room : ℕ) → first_of (write_checks vendor text ns room) ≡ some UnfitFields
  unfolding right_fields first_of
  unfit e room = by sums (leb (length (packet_of vendor text ns)) packet_max) refl refl
    where
      by : (s l : Bool) → sums ≡ s → leb (length (packet_of vendor text ns)) packet_max ≡ l → first_of (write_checks vendor text ns room) ≡ some UnfitFields
      by false l p q = rw p
      by true false p q = rw (p, lt-ltb packet_max (length (packet_of vendor text ns)) (leb-false (length (packet_of vendor text ns)) packet_max q))
      by true true p q =
          let wrong : right_tags (given vendor text ns) ≡ false = rw (p, q) at e in
          rw (p, le-ltb packet_max (length (packet_of vendor text ns)) (leb-true (length (packet_of vendor text ns)) packet_max q), wrong)

  module _ (right : right_fields vendor text ns ≡ true) (room : ℕ) where
    short : room < size → first_of (write_checks vendor text ns room) ≡ some ShortOutput
    unfolding first_of
    short h =
        let t = tested right in
        rw (
          t.0,
          le-ltb packet_max (length (packet_of vendor text ns)) t.1,
          t.2,
          lt-ltb room (length (packet_of vendor text ns)) (omega (arith, packet-size t.0)),
        )

    enough : size ≤ room → first_of (write_checks vendor text ns room) ≡ none
    unfolding first_of
    enough h =
        let t = tested right in
        rw (
          t.0,
          le-ltb packet_max (length (packet_of vendor text ns)) t.1,
          t.2,
          le-ltb room (length (packet_of vendor text ns)) (omega (arith, packet-size t.0)),
        )

  -- ---- the answers

  pub refused-fields : (out : Bytes) → right_fields vendor text ns ≡ false → Wrote vendor text ns out (Err UnfitFields) out
  unfolding write_told write_out
  refused-fields out e = record { told = rw (unfit e (length out)); output = rw (unfit e (length out)) }

  pub refused-room : (out : Bytes) → right_fields vendor text ns ≡ true → length out < size → Wrote vendor text ns out (Err ShortOutput) out
  unfolding write_told write_out
  refused-room out e h = record { told = rw (short e (length out) h); output = rw (short e (length out) h) }

  pub wrote_packet : (out end : Bytes) → right_fields vendor text ns ≡ true → size ≤ length out → end ≡ copied out 0 (packet_of vendor text ns)
      → Wrote vendor text ns out (Ok size) end
  unfolding write_told write_out
  wrote_packet out end e h put =
      record {
        told = rw (enough e (length out) h) (ap gives (sym (packet-size (tested e).0)));
        output = rw (enough e (length out) h) put;
      }
