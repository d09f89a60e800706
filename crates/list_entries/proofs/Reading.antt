-- The bytes of a line that lies in a buffer. Assumes nothing.
use mathlib.Core.Path.{◌≡◌, sym, ap, ◌∙◌}
use mathlib.Core.List.{◌++◌}
use Prim.Native.Nat.{ℕ, ◌+◌, ◌*◌, ◌-◌, ◌/◌, ◌%◌, ◌≤◌, ◌<◌}
use native.Mathlib.Omega.{arith}
use lib.ListN.{length, take, drop, length-append, length-drop}
use lib.Seq.{take_all, take_at, take-take, take-append-le, drop-append-add, drop-drop}
use Rattle.octets.specs.Octets.{Bytes, Octets}
use Rattle.octets.specs.Numbers.{octets, number}
use Rattle.octets.proofs.Fields.{field}
use Rattle.octets.proofs.Numbers.{length-octets}
use Rattle.octets.proofs.Parts.{take_within}
use Rattle.text_decimal.specs.Decimal.{decimal}
use Rattle.text_decimal.specs.Digits.{lowest}
use Rattle.text_decimal.proofs.Decimal.{decimal_fours, length_more, length_most, length-lowest}
use Rattle.text_decimal.proofs.Reading.{decimal_right}
use Rattle.list_lines.specs.Lines.{entry_line}
use Rattle.list_entries.specs.declared.Repeat.{Repeat}
use Rattle.list_entries.specs.Code.{tail_line, Has, Stands}
use Rattle.list_entries.proofs.Laying.{line-parts}

pub length-tail : (samples frames kept : ℕ)
    → length (tail_line samples frames kept) ≡ length (decimal samples) + length (decimal frames) + length (decimal kept) + 4
unfolding tail_line
length-tail samples frames kept = simp length-append (omega arith)

-- 1,000 has four digits
at_least_four : (x : ℕ) → 1000 ≤ x → 4 ≤ length (decimal x)
at_least_four x h =
    omega (
      arith,
      length_more x (omega arith),
      length_more (x / 10) (omega arith),
      length_more (x / 10 / 10) (omega arith),
      (decimal_right (x / 10 / 10 / 10)).some,
    )

-- eight bytes of a line that lies at a place
eight_at : (out line : Bytes) (at i : ℕ) → Octets out → at + length line ≤ length out → take (length line) (drop at out) ≡ line
    → i + 8 ≤ length line → octets 8 (number 8 out (at + i)) ≡ take 8 (drop i line)
eight_at out line at i o fits same h =
    let n : ℕ = number 8 out (at + i) in
    sym (take_at (octets 8 n) (drop (at + i + 8) out) 8 (length-octets 8 n))
    ∙ ap (take 8) (field 8 (at + i) out o (omega arith) ∙ sym (drop-drop i at out))
    ∙ sym (take_within 8 i (length line) (drop at out) h)
    ∙ ap (λ (l : Bytes). take 8 (drop i l)) same

module _ {out : Bytes} {at next : ℕ} (end samples frames kept : ℕ) (s : Stands out at next (entry_line end samples frames kept)) (o : Octets out)
    (low : 10000000 ≤ end) (high : end < 1000000000000) {t : ℕ} (ht : t ≡ length (tail_line samples frames kept)) (least : 8 ≤ t) where
  abbrev line : Bytes
  line = entry_line end samples frames kept

  abbrev tail : Bytes
  tail = tail_line samples frames kept

  abbrev upper : Bytes
  upper = decimal (end / 10000)

  abbrev fours : Bytes
  fours = lowest 4 (end % 10000)

  parts : line ≡ (upper ++ fours) ++ tail
  parts = line-parts end samples frames kept ∙ ap (λ (b : Bytes). b ++ tail) (decimal_fours end (omega arith))

  pub few : (4 ≤ length upper) × (length upper ≤ 8)
  few = (at_least_four (end / 10000) (omega arith), length_most (end / 10000) 7 (omega arith))

  stamp : length (upper ++ fours) ≡ length upper + 4
  stamp = length-append upper fours ∙ omega (arith, length-lowest 4 (end % 10000))

  pub whole : next ≡ at + length upper + 4 + t
  whole = s.place ∙ omega (arith, ap length parts, length-append (upper ++ fours) tail, stamp)

  eight : (i : ℕ) → i + 8 ≤ length upper + 4 + t → octets 8 (number 8 out (at + i)) ≡ take 8 (drop i line)
  eight i h = eight_at out line at i o (omega (arith, s.place, s.inside)) s.line (omega (arith, s.place, whole))

  front : take 8 line ≡ take 8 (upper ++ fours)
  front = rw parts (take-append-le 8 (upper ++ fours) tail (omega (arith, stamp, few)))

  upper-read : take (length upper) (octets 8 (number 8 out at)) ≡ upper
  upper-read =
      let zero : at + 0 ≡ at = omega arith in
      ap (take (length upper)) (rw zero at (eight 0 (omega arith)) ∙ front)
      ∙ take-take (length upper) 8 (upper ++ fours) few.1
      ∙ take_at upper fours (length upper) (omega arith)

  -- the line's bytes from some place of its tail on
  behind : (i : ℕ) → drop (length upper + 4 + i) line ≡ drop i tail
  behind i = rw (parts, ← stamp) (drop-append-add (upper ++ fours) tail i)

  read-from : (place i : ℕ) → place ≡ at + (length upper + 4 + i) → i + 8 ≤ t → octets 8 (number 8 out place) ≡ take 8 (drop i tail)
  read-from place i e h = rw e (eight (length upper + 4 + i) (omega arith) ∙ ap (take 8) (behind i))

  pub has : (c : Repeat) → t ≤ 16 → c.base ≡ end / 10000 * 10000 → c.samples ≡ samples → c.frames ≡ frames → c.kept ≡ kept → c.digits ≡ next - t - 4 - at
      → c.bytes ≡ t → c.upper ≡ number 8 out at → c.first ≡ number 8 out (next - t) → c.last ≡ number 8 out (next - 8) → Has c
  has c most hb hs hr hk hd hl hu hf hz =
      let digits : c.digits ≡ length upper = omega (arith, whole) in
      let base : c.base / 10000 ≡ end / 10000 = omega arith in
      let short : length (drop (t - 8) tail) ≤ 8 = omega (arith, length-drop (t - 8) tail) in
      record {
        high = omega arith;
        round = omega arith;
        four = omega (arith, few);
        eight = omega (arith, few);
        upper = rw (digits, hu, base) upper-read;
        long = rw (hs, hr, hk) (hl ∙ ht);
        least = omega arith;
        most = omega arith;
        first = rw (hs, hr, hk, hf) (read-from (next - t) 0 (omega (arith, whole)) (omega arith));
        last = rw (hs, hr, hk, hl, hz) (read-from (next - 8) (t - 8) (omega (arith, whole)) (omega arith) ∙ take_all 8 (drop (t - 8) tail) short);
      }
