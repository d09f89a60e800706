-- The lines of a listing by their parts, and their lengths. Assumes nothing.
use mathlib.Core.Path.{◌≡◌}
use mathlib.Core.List.{◌++◌, append_assoc}
use Prim.Native.Nat.{ℕ, ◌+◌, ◌^◌, ◌≤◌, ◌<◌}
use native.Mathlib.Omega.{arith}
use lib.ListN.{length, length-append}
use Rattle.octets.specs.Octets.{Bytes}
use Rattle.text_put.specs.Writing.{Put, Laid}
use Rattle.text_put.specs.Marks.{space, line_feed}
use Rattle.text_put.proofs.Laying.{laid_next}
use Rattle.text_put.proofs.Putting.{laid-put, laid_then}
use Rattle.text_decimal.specs.Decimal.{decimal}
use Rattle.text_decimal.proofs.Decimal.{length-ended, length-u64}
use Rattle.list_lines.specs.Lines.{longest, entry_line, total_kept, and_skipped, and_trimmed, and_hole, total_line, refused_by, on_page, refused_line}

pub length-pair : (s t : Bytes) (x y : ℕ)
    → length ((s ++ decimal x) ++ (t ++ decimal y)) ≡ length s + length (decimal x) + length t + length (decimal y)
length-pair s t x y = simp length-append (omega arith)

module _ (end samples frames kept : ℕ) where
  abbrev line : Bytes
  line = entry_line end samples frames kept

  pub length-entry : length line ≡ length (decimal end) + length (decimal samples) + length (decimal frames) + length (decimal kept) + 4
  unfolding entry_line
  length-entry = simp length-append (omega arith)

  pub entry-most : end < 2 ^ 64 → samples < 2 ^ 64 → frames < 2 ^ 64 → kept < 2 ^ 64 → length line ≤ longest
  entry-most he hs hf hk = omega (arith, length-entry, length-u64 end he, length-u64 samples hs, length-u64 frames hf, length-u64 kept hk)

  entry-parts : line ≡ (((decimal end ++ space) ++ (decimal samples ++ space)) ++ (decimal frames ++ space)) ++ (decimal kept ++ line_feed)
  unfolding entry_line
  entry-parts = simp append_assoc

  pub laid-entry : {d w x y z : Bytes} {at a b c r : ℕ} → Put d at (decimal end ++ space) a w → Put w a (decimal samples ++ space) b x
      → Put x b (decimal frames ++ space) c y → Put y c (decimal kept ++ line_feed) r z → at + length line ≤ length d → Laid d at line r z
  laid-entry e f g h room =
      let he = length-ended end 32 in
      let hf = length-ended samples 32 in
      let hg = length-ended frames 32 in
      let hh = length-ended kept 10 in
      let both = length-append (decimal end ++ space) (decimal samples ++ space) in
      let three = length-append ((decimal end ++ space) ++ (decimal samples ++ space)) (decimal frames ++ space) in
      let size = length-entry in
      let one = laid-put (omega arith) e in
      let two = laid_then one (omega (arith, one.place)) f in
      let most = laid_then two (omega (arith, two.place)) g in
      rw entry-parts (laid_then most (omega (arith, most.place)) h)

-- nine parts, as four and four and one
grouped : (a b c d e f g h i : Bytes)
    → a ++ b ++ c ++ d ++ e ++ f ++ g ++ h ++ i ≡ (((a ++ b) ++ (c ++ d)) ++ ((e ++ f) ++ (g ++ h))) ++ i
grouped a b c d e f g h i = simp append_assoc

module _ (kept skipped trimmed hole : ℕ) where
  pub length-total : length (total_line kept skipped trimmed hole)
      ≡ 36 + length (decimal kept) + length (decimal skipped) + length (decimal trimmed) + length (decimal hole)
  unfolding total_line
  length-total = simp length-append (omega arith)

  total-parts : total_line kept skipped trimmed hole
      ≡ (((total_kept ++ decimal kept) ++ (and_skipped ++ decimal skipped)) ++ ((and_trimmed ++ decimal trimmed) ++ (and_hole ++ decimal hole))) ++ line_feed
  unfolding total_line
  total-parts = grouped total_kept (decimal kept) and_skipped (decimal skipped) and_trimmed (decimal trimmed) and_hole (decimal hole) line_feed

  pub laid-total : {d x y z : Bytes} {at a b r : ℕ} → Laid d at ((total_kept ++ decimal kept) ++ (and_skipped ++ decimal skipped)) a x
      → Laid x a ((and_trimmed ++ decimal trimmed) ++ (and_hole ++ decimal hole)) b y → Laid y b line_feed r z
      → at + length (total_line kept skipped trimmed hole) ≤ length d → Laid d at (total_line kept skipped trimmed hole) r z
  laid-total {d} {x} {y} {z} {at} {a} {b} {r} e f g room =
      let he = length-pair total_kept and_skipped kept skipped in
      let hf = length-pair and_trimmed and_hole trimmed hole in
      let size = length-total in
      let two = laid_next e f (omega (arith, e.place)) in
      rw total-parts (laid_next two g (omega (arith, e.place, f.place)))

module _ (number page : ℕ) where
  pub length-refused : length (refused_line number page) ≡ 15 + length (decimal number) + length (decimal page)
  unfolding refused_line
  length-refused = simp length-append (omega arith)

  refused-parts : refused_line number page ≡ ((refused_by ++ decimal number) ++ (on_page ++ decimal page)) ++ line_feed
  unfolding refused_line
  refused-parts = simp append_assoc

  pub laid-refused : {d x y : Bytes} {at a r : ℕ} → Laid d at ((refused_by ++ decimal number) ++ (on_page ++ decimal page)) a x
      → Laid x a line_feed r y → at + length (refused_line number page) ≤ length d → Laid d at (refused_line number page) r y
  laid-refused {d} {x} {y} {at} {a} {r} e f room =
      let he = length-pair refused_by on_page number page in
      let size = length-refused in
      rw refused-parts (laid_next e f (omega (arith, e.place)))
