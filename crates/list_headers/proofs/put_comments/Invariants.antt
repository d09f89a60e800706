-- `list_headers::put_comments` meets its contract. The loop's invariant: what is left makes the same of what was put. Assumes
-- nothing.
use mathlib.Core.Path.{◌≡◌}
use lib.ListN.{length}
use Rattle.text_pieces.specs.Pieces.{laying, lay_all}
use Rattle.list_headers.specs.Code.{found_comments}
use Rattle.list_headers.proofs.put_comments.Given as goal

abbrev pub invariant-loop-left : goal.invariant-loop-left
invariant-loop-left l = (lay_all (laying l.p l.out) (found_comments l.b l.left l.place) ≡ lay_all (laying l.initial.p l.initial.out) (found_comments l.b l.n l.first))
    × (length l.out ≡ length l.initial.out)

abbrev pub decreases-loop-left : goal.decreases-loop-left
decreases-loop-left l = l.left
