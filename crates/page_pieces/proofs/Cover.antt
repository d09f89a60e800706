-- The pieces of a body have the lengths that its lacing values tell, and cover it. Assumes nothing.
use mathlib.Core.Path.{◌≡◌, refl, ap₂}
use mathlib.Core.Bool.{Bool, true, false}
use mathlib.Core.List.{List, [], ◌∷◌, ◌++◌, map, append_assoc}
use Prim.Native.Nat.{ℕ, ◌+◌, ◌≤◌}
use native.Mathlib.Omega.{arith}
use lib.Dec.{ltb}
use lib.ListN.{length, take, drop, length-drop, take-append-drop}
use lib.Seq.{length-take-le, take_all}
use Rattle.octets.specs.Pick.{pick}
use Rattle.octets.specs.Octets.{Bytes, total}
use Rattle.page_lacing.specs.Lacing.{Cut, cut_from, ended_from, unfinished_from}
use Rattle.page_pieces.specs.Statements.{joined, PiecesCover}

-- the pieces k have the lengths e and u, and cover b
record Fits (k : Cut) (e : List ℕ) (u : ℕ) (b : Bytes) : Type 0 where
  lengths : map length k.whole ≡ e
  left : length k.rest ≡ u
  body : joined k.whole ++ k.rest ≡ b

either : (t : Bool) {k m : Cut} {e f : List ℕ} {u w : ℕ} {b : Bytes} → Fits k e u b → Fits m f w b → Fits (pick t k m) (pick t e f) (pick t u w) b
either true p q = p
either false p q = q

-- a piece of n bytes in front
in_front_lem : (n : ℕ) (b : Bytes) {k : Cut} {e : List ℕ} {u : ℕ} → n ≤ length b → Fits k e u (drop n b)
    → Fits (record { whole = take n b ∷ k.whole; rest = k.rest }) (n ∷ e) u b
unfolding joined
in_front_lem n b h f = record {
  lengths = ap₂ (λ (x : ℕ) (y : List ℕ). x ∷ y) (length-take-le n b h) f.lengths;
  left = f.left;
  body = rw (append_assoc, f.body) (take-append-drop n b);
}

-- with n bytes taken already
covered : (l : Bytes) (n : ℕ) (b : Bytes) → n + total l ≡ length b → Fits (cut_from n l b) (ended_from n l) (unfinished_from n l) b
unfolding cut_from ended_from unfinished_from total joined
covered [] n b h = record { lengths = refl; left = length-take-le n b (omega arith); body = take_all n b (omega arith) }
covered (v ∷ l) n b h =
    either (ltb v 255)
    (in_front_lem (n + v) b (omega arith) (covered l 0 (drop (n + v) b) (simp length-drop (omega arith))))
    (covered l (n + v) b (omega arith))

pub pieces_cover : PiecesCover
pieces_cover l b h =
    let f : Fits (cut_from 0 l b) (ended_from 0 l) (unfinished_from 0 l) b = covered l 0 b (omega arith) in
    record { lengths = f.lengths; left = f.left; body = f.body }
