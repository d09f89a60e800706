-- The lines of an index by their parts, and their lengths. Assumes nothing.
use mathlib.Core.Path.{◌≡◌, refl}
use mathlib.Core.List.{[], ◌∷◌, ◌++◌, append_assoc}
use Prim.Native.Nat.{ℕ, ◌+◌, ◌^◌, ◌≤◌, ◌<◌}
use native.Mathlib.Omega.{arith}
use lib.ListN.{length, length-append}
use Rattle.octets.specs.Octets.{Bytes}
use Rattle.text_put.specs.Writing.{Put, Laid}
use Rattle.text_put.specs.Marks.{space, line_feed}
use Rattle.text_put.proofs.Putting.{laid-put, laid_then}
use Rattle.text_decimal.specs.Decimal.{decimal}
use Rattle.text_decimal.proofs.Decimal.{length-ended, length_most, length-u64}
use Rattle.list_lines.specs.Lines.{refused_by}
use Rattle.index_lines.specs.Lines.{longest, record_line, place_refused_line}

pub length-named : (name : Bytes) (x b : ℕ) → length (name ++ (decimal x ++ (b ∷ []))) ≡ length name + length (decimal x) + 1
length-named name x b = simp length-append (omega arith)

module _ (granule place sequence : ℕ) where
  abbrev line : Bytes
  line = record_line granule place sequence

  pub length-record : length line ≡ length (decimal granule) + length (decimal place) + length (decimal sequence) + 3
  unfolding record_line
  length-record = simp length-append (omega arith)

  pub record-most : granule < 2 ^ 64 → place < 2 ^ 64 → sequence < 2 ^ 32 → length line ≤ longest
  record-most hg hp hs =
      let s : sequence < 10 ^ 10 = omega arith in
      omega (arith, length-record, length-u64 granule hg, length-u64 place hp, length_most sequence 9 s)

  record-parts : line ≡ ((decimal granule ++ space) ++ (decimal place ++ space)) ++ (decimal sequence ++ line_feed)
  unfolding record_line
  record-parts = simp append_assoc

  pub laid-record : {d x y z : Bytes} {at a b r : ℕ} → Put d at (decimal granule ++ space) a x → Put x a (decimal place ++ space) b y
      → Put y b (decimal sequence ++ line_feed) r z → at + length line ≤ length d → Laid d at line r z
  laid-record e f g room =
      let he = length-ended granule 32 in
      let hf = length-ended place 32 in
      let hg = length-ended sequence 10 in
      let both = length-append (decimal granule ++ space) (decimal place ++ space) in
      let size = length-record in
      let one = laid-put (omega arith) e in
      let two = laid_then one (omega (arith, one.place)) f in
      rw record-parts (laid_then two (omega (arith, two.place)) g)

-- "place "
abbrev place_word : Bytes
place_word = 112 ∷ 108 ∷ 97 ∷ 99 ∷ 101 ∷ 32 ∷ []

module _ (number place : ℕ) where
  pub length-refused : length (place_refused_line number place) ≡ 16 + length (decimal number) + length (decimal place)
  unfolding place_refused_line
  length-refused = simp length-append (omega arith)

  refused-parts : place_refused_line number place ≡ (refused_by ++ (decimal number ++ space)) ++ (place_word ++ (decimal place ++ line_feed))
  unfolding place_refused_line
  refused-parts = simp append_assoc refl

  pub laid-refused : {d x y : Bytes} {at a r : ℕ} → Put d at (refused_by ++ (decimal number ++ space)) a x
      → Put x a (place_word ++ (decimal place ++ line_feed)) r y → at + length (place_refused_line number place) ≤ length d
      → Laid d at (place_refused_line number place) r y
  laid-refused e f room =
      let he = length-named refused_by number 32 in
      let hf = length-named place_word place 10 in
      let size = length-refused in
      let one = laid-put (omega arith) e in
      rw refused-parts (laid_then one (omega (arith, one.place)) f)
