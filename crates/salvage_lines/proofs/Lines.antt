-- A line of salvage by its parts, and its length. Assumes nothing.
use mathlib.Core.Path.{◌≡◌}
use mathlib.Core.List.{◌++◌, append_assoc}
use Prim.Native.Nat.{ℕ, ◌+◌, ◌≤◌}
use native.Mathlib.Omega.{arith}
use lib.ListN.{length, length-append}
use Rattle.octets.specs.Octets.{Bytes}
use Rattle.text_put.specs.Writing.{Put, Laid}
use Rattle.text_put.specs.Marks.{space, line_feed}
use Rattle.text_put.proofs.Putting.{laid-put, laid_then}
use Rattle.text_decimal.specs.Decimal.{decimal}
use Rattle.text_decimal.proofs.Decimal.{length-ended}

module _ (name : Bytes) (x y : ℕ) where
  abbrev pub line : Bytes
  line = name ++ decimal x ++ space ++ decimal y ++ line_feed

  pub length-line : length line ≡ length name + length (decimal x) + length (decimal y) + 2
  length-line = simp length-append (omega arith)

  line-parts : line ≡ (name ++ (decimal x ++ space)) ++ (decimal y ++ line_feed)
  line-parts = simp append_assoc

  pub laid-line : {d e f g : Bytes} {at a b r : ℕ} → Put d at name a e → Put e a (decimal x ++ space) b f → Put f b (decimal y ++ line_feed) r g
      → at + length line ≤ length d → Laid d at line r g
  laid-line p q s room =
      let hx = length-ended x 32 in
      let hy = length-ended y 10 in
      let both = length-append name (decimal x ++ space) in
      let size = length-line in
      let one = laid-put (omega arith) p in
      let two = laid_then one (omega (arith, one.place)) q in
      rw line-parts (laid_then two (omega (arith, two.place)) s)
