-- One piece more, as the code's answers tell it, and pieces after others. Assumes nothing.
use mathlib.Core.Path.{◌≡◌, refl, ap, ◌∙◌}
use mathlib.Core.Bool.{Bool, true, false}
use mathlib.Core.List.{List, [], ◌∷◌, ◌++◌}
use Prim.Native.Nat.{ℕ, ◌+◌, ◌≤◌}
use native.Mathlib.Omega.{arith}
use borrow.Author.Tests.{lt-ltb, le-ltb}
use lib.Dec.{leb, ltb}
use lib.ListN.{length}
use Rattle.octets.specs.Octets.{Bytes}
use Rattle.text_put.specs.Writing.{Put, place_after}
use Rattle.text_pieces.specs.declared.Pieces.{Pieces}
use Rattle.text_pieces.specs.Pieces.{Laying, laid, lay_all, moved_to, laying}

-- a piece that has bytes moves the place where it fits
moves : (d : Bytes) (at : ℕ) (s : Bytes) → 1 ≤ length s → ltb at (place_after d at s) ≡ leb (at + length s) (length d)
unfolding place_after
moves d at s some = by (leb (at + length s) (length d)) refl
  where
    by : (t : Bool) → leb (at + length s) (length d) ≡ t → ltb at (place_after d at s) ≡ leb (at + length s) (length d)
    by true e = rw e (lt-ltb at (at + length s) (omega arith))
    by false e = rw e (le-ltb at at (omega arith))

one_more : (p : Pieces) {d e : Bytes} {next : ℕ} (s : Bytes) → 1 ≤ length s → Put d p.at s next e
    → laying (moved_to p next) e ≡ laid (laying p d) s
unfolding moved_to laid
one_more p {d} s some put = rw (put.place, put.output, moves d p.at s some)

-- the same, r being what the code handed on
pub one_piece : (p : Pieces) {r : Pieces} {d e : Bytes} {next : ℕ} (s : Bytes) → 1 ≤ length s → r ≡ moved_to p next
    → Put d p.at s next e → laying r e ≡ laid (laying p d) s
one_piece p {e = e} s some moved put = ap (λ (q : Pieces). laying q e) moved ∙ one_more p s some put

pub lay_append : (l : Laying) (a b : List Bytes) → lay_all l (a ++ b) ≡ lay_all (lay_all l a) b
unfolding lay_all
lay_append l [] b = refl
lay_append l (s ∷ a) b = lay_append (laid l s) a b
