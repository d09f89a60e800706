-- A line laid by stores of eight bytes, each over the end of the one before. Assumes nothing.
use mathlib.Core.Path.{◌≡◌, sym, ap, ◌∙◌}
use mathlib.Core.List.{◌++◌, append_assoc}
use Prim.Native.Nat.{ℕ, ◌+◌, ◌-◌, ◌/◌, ◌%◌, ◌≤◌}
use native.Mathlib.Omega.{arith}
use native.Mathlib.Nat.{le_refl}
use lib.ListN.{length, take, drop, length-append, length-drop, take-append-drop}
use lib.Seq.{paste, length-paste, drop-paste, take_at, take-append-le, take-append-add, take-take, length-take-le, drop-drop}
use Rattle.octets.specs.Octets.{Bytes, copied}
use Rattle.octets.specs.Numbers.{octets}
use Rattle.octets.proofs.Copying.{copied-fits, length-copied, copied-append}
use Rattle.octets.proofs.Numbers.{length-octets}
use Rattle.text_put.specs.Writing.{Laid}
use Rattle.text_decimal.specs.Decimal.{decimal}
use Rattle.text_decimal.specs.Digits.{lowest}
use Rattle.text_decimal.proofs.Decimal.{decimal_fours, length-lowest}
use Rattle.list_lines.specs.Lines.{entry_line}
use Rattle.list_entries.specs.declared.Repeat.{Repeat}
use Rattle.list_entries.specs.Code.{tail_line, tail_of, Again}

-- a copy over another one that is no longer
covered : (d : Bytes) (at : ℕ) (a s : Bytes) → length a ≤ length s → at + length s ≤ length d → copied (copied d at a) at s ≡ copied d at s
covered d at a s h fits =
    let p : Bytes = paste d at a (length a) in
    let long : length p ≡ length d = length-paste d at a (length a) (omega arith) (le_refl (length a)) in
    let front : take at p ≡ take at d =
    (take-append-le at (take at d ++ take (length a) a) (drop (at + length a) d) (rw (length-append, length-take-le at d (omega arith)) (omega arith))
    ∙ take_at (take at d) (take (length a) a) at (length-take-le at d (omega arith))) in
    let gap : at + length a + (length s - length a) ≡ at + length s = omega arith in
    let behind : drop (at + length s) p ≡ drop (at + length s) d =
    (rw (← gap, ← drop-drop (length s - length a) (at + length a) p, drop-paste d at a (length a) (omega arith) (le_refl (length a)))
    (drop-drop (length s - length a) (at + length a) d)) in
    ap (λ (b : Bytes). copied b at s) (copied-fits d at a (omega arith))
    ∙ copied-fits p at s (omega arith)
    ∙ rw (front, behind) (sym (copied-fits d at s fits))

-- a copy over the end of another one
pub over : (d : Bytes) (at : ℕ) (a s : Bytes) (i : ℕ) → i ≤ length a → length a ≤ i + length s → at + i + length s ≤ length d
    → copied (copied d at a) (at + i) s ≡ copied d at (take i a ++ s)
over d at a s i h k fits =
    let b : Bytes = take i a in
    let lb : length b ≡ i = length-take-le i a h in
    let le : length (drop i a) ≡ length a - i = length-drop i a in
    let two : copied (copied d at b) (at + i) (drop i a) ≡ copied d at a =
    (copied-append d at b (drop i a) (at + i) (omega arith) (omega arith) ∙ ap (copied d at) (take-append-drop i a)) in
    ap (λ (l : Bytes). copied l (at + i) s) (sym two)
    ∙ covered (copied d at b) (at + i) (drop i a) s (omega arith) (omega (arith, length-copied d at b))
    ∙ copied-append d at b s (at + i) (omega arith) fits

-- ---- a line of the bytes that are kept

pub line-parts : (end samples frames kept : ℕ) → entry_line end samples frames kept ≡ decimal end ++ tail_line samples frames kept
unfolding entry_line tail_line
line-parts end samples frames kept = simp append_assoc

module _ {d : Bytes} {at end : ℕ} {c : Repeat} (a : Again d at c end) where
  abbrev tail : Bytes
  tail = tail_of c

  size-upper : length (decimal (c.base / 10000)) ≡ c.digits
  size-upper = ap length (sym a.has.upper) ∙ length-take-le c.digits (octets 8 c.upper) (omega (arith, length-octets 8 c.upper, a.has.eight))

  stamp : decimal end ≡ decimal (c.base / 10000) ++ lowest 4 (end - c.base)
  stamp =
      let q : end / 10000 ≡ c.base / 10000 = omega (arith, a.has.round, a.above, a.near) in
      let r : end % 10000 ≡ end - c.base = omega (arith, a.has.round, a.above, a.near) in
      decimal_fours end (omega (arith, a.has.high, a.above)) ∙ rw (q, r)

  size_stamp : length (decimal end) ≡ c.digits + 4
  size_stamp = ap length stamp ∙ length-append (decimal (c.base / 10000)) (lowest 4 (end - c.base)) ∙ omega (arith, size-upper, length-lowest 4 (end - c.base))

  stamped : {x y : Bytes} → x ≡ copied d at (octets 8 c.upper) → y ≡ copied x (at + c.digits) (lowest 4 (end - c.base)) → y ≡ copied d at (decimal end)
  stamped hx hy =
      let h = a.has in
      let lu = length-octets 8 c.upper in
      let ll = length-lowest 4 (end - c.base) in
      hy ∙ ap (λ (b : Bytes). copied b (at + c.digits) (lowest 4 (end - c.base))) hx
      ∙ over d at (octets 8 c.upper) (lowest 4 (end - c.base)) c.digits
      (omega (arith, h.eight)) (omega (arith, h.four)) (omega (arith, h.eight, a.room))
      ∙ ap (copied d at) (ap (λ (b : Bytes). b ++ lowest 4 (end - c.base)) h.upper ∙ sym stamp)

  -- the tail's first eight bytes, and its last eight over them
  tailed : {y z o : Bytes} → y ≡ copied d at (decimal end) → z ≡ copied y (at + c.digits + 4) (octets 8 c.first)
      → o ≡ copied z (at + c.digits + 4 + c.bytes - 8) (octets 8 c.last) → o ≡ copied d at (decimal end ++ tail)
  tailed {y} {z} {o} hy hz ho =
      let h = a.has in
      let t : ℕ = c.bytes in
      let f : Bytes = take 8 tail in
      let l : Bytes = drop (t - 8) tail in
      let i : ℕ = length (decimal end) + (t - 8) in
      let lf : length f ≡ 8 = length-take-le 8 tail (omega (arith, h.long, h.least)) in
      let ll : length l ≡ 8 = length-drop (t - 8) tail ∙ omega (arith, h.long, h.least) in
      let both : length (decimal end ++ f) ≡ length (decimal end) + 8 = length-append (decimal end) f ∙ omega arith in
      let place : at + c.digits + 4 + t - 8 ≡ at + i = omega (arith, size_stamp, h.least) in
      let second : z ≡ copied d at (decimal end ++ f) =
      (hz ∙ ap (λ (b : Bytes). copied b (at + c.digits + 4) (octets 8 c.first)) hy
      ∙ ap (copied (copied d at (decimal end)) (at + c.digits + 4)) h.first
      ∙ copied-append d at (decimal end) f (at + c.digits + 4) (omega (arith, size_stamp)) (omega (arith, h.eight, a.room))) in
      let text : take i (decimal end ++ f) ++ l ≡ decimal end ++ tail =
      (rw (take-append-add (decimal end) f (t - 8), take-take (t - 8) 8 tail (omega (arith, h.most)), append_assoc (decimal end) (take (t - 8) tail) l, take-append-drop (t - 8) tail)) in
      ho ∙ rw (place, second, h.last)
      (over d at (decimal end ++ f) l i (omega (arith, h.most)) (omega (arith, h.least)) (omega (arith, size_stamp, h.eight, h.most, a.room))
      ∙ ap (copied d at) text)

  pub laid-again : {x y z o : Bytes} → x ≡ copied d at (octets 8 c.upper) → y ≡ copied x (at + c.digits) (lowest 4 (end - c.base))
      → z ≡ copied y (at + c.digits + 4) (octets 8 c.first) → o ≡ copied z (at + c.digits + 4 + c.bytes - 8) (octets 8 c.last)
      → Laid d at (entry_line end c.samples c.frames c.kept) (at + c.digits + 4 + c.bytes) o
  laid-again hx hy hz ho = rw (line-parts end c.samples c.frames c.kept) (record {
    place = omega (arith, length-append (decimal end) tail, size_stamp, a.has.long);
    output = tailed (stamped hx hy) hz ho;
  })
