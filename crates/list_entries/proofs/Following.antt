-- The next line, made of the bytes of the one before or of its numbers. Assumes nothing.
use mathlib.Core.Path.{◌≡◌, refl, sym, ap}
use mathlib.Core.Bool.{true, ◌&&◌}
use mathlib.Core.List.{◌++◌, append_assoc}
use Prim.Native.Nat.{ℕ, ◌+◌, ◌-◌, ◌≤◌, ◌<◌}
use native.Mathlib.Omega.{arith}
use borrow.Author.Tests.{ltb-true, leb-true, eqb-true}
use lib.Dec.{ltb, leb, eqb}
use lib.ListN.{length, take, drop}
use lib.Seq.{take-length, take_at, drop_at, length-take-le}
use Rattle.octets.specs.Octets.{Bytes, copied}
use Rattle.octets.proofs.Copying.{copied-fits, length-copied}
use Rattle.octets.proofs.Tests.{both}
use Rattle.text_put.specs.Writing.{Put, Laid}
use Rattle.text_put.proofs.Putting.{laid-put}
use Rattle.list_lines.specs.Lines.{entry_line, longest}
use Rattle.list_entries.specs.declared.Repeat.{Repeat}
use Rattle.list_entries.specs.Code.{Sound, is_again, Again, Stands}

-- what the test says
pub record Says (c : Repeat) (end samples frames kept : ℕ) : Type 0 where
  pub some : 0 < c.digits
  pub above : c.base ≤ end
  pub near : end - c.base < 10000
  pub same : c.samples ≡ samples
  pub framed : c.frames ≡ frames
  pub keeps : c.kept ≡ kept

pub says : (c : Repeat) (end samples frames kept : ℕ) → is_again c end samples frames kept ≡ true → Says c end samples frames kept
says c end samples frames kept t =
    let counts = eqb frames c.frames && eqb kept c.kept in
    let last = eqb samples c.samples && counts in
    let one = both (ltb 0 c.digits) (leb c.base end && (ltb (end - c.base) 10000 && last)) t in
    let two = both (leb c.base end) (ltb (end - c.base) 10000 && last) one.1 in
    let three = both (ltb (end - c.base) 10000) last two.1 in
    let four = both (eqb samples c.samples) counts three.1 in
    let five = both (eqb frames c.frames) (eqb kept c.kept) four.1 in
    record {
      some = ltb-true 0 c.digits one.0;
      above = leb-true c.base end two.0;
      near = ltb-true (end - c.base) 10000 three.0;
      same = sym (eqb-true samples c.samples four.0);
      framed = sym (eqb-true frames c.frames five.0);
      keeps = sym (eqb-true kept c.kept five.1);
    }

module _ {d : Bytes} {at end samples frames kept : ℕ} {c : Repeat} (w : Says c end samples frames kept) where
  pub again : at + longest ≤ length d → Sound c → Again d at c end
  again room s = record { has = s (omega (arith, w.some)); room = room; above = w.above; near = w.near }

  pub same_line : {r : ℕ} {o : Bytes} → Laid d at (entry_line end c.samples c.frames c.kept) r o
      → Laid d at (entry_line end samples frames kept) r o
  same_line l = rw (w.same, w.framed, w.keeps) at l

pub ends-within : {d : Bytes} {at r : ℕ} {s o : Bytes} → at + longest ≤ length d → length s ≤ longest → Laid d at s r o → r ≤ length d
ends-within room short l = omega (arith, l.place)

-- a line made of its numbers
module _ {d : Bytes} {at r : ℕ} {s o : Bytes} (room : at + longest ≤ length d) (short : length s ≤ longest) (p : Put d at s r o) where
  fits : at + length s ≤ length d
  fits = omega arith

  pub laid : Laid d at s r o
  laid = laid-put fits p

  line_in : take (length s) (drop at (copied d at s)) ≡ s
  line_in =
      let n : ℕ = length s in
      let rest : Bytes = drop (at + n) d in
      rw (
        copied-fits d at s fits,
        take-length s,
        append_assoc (take at d) s rest,
        drop_at (take at d) (s ++ rest) at (length-take-le at d (omega (arith, fits))),
      ) (take_at s rest n refl)

  pub stands : Stands o at r s
  stands = record {
    place = laid.place;
    inside = omega (arith, laid.place, fits, ap length p.output, length-copied d at s);
    line = rw p.output line_in;
  }
