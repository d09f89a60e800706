-- `feed_lacing::shape_of` meets its contract. Assumes nothing.
use mathlib.Core.Path.{◌≡◌}
use lib.ListN.{drop}
use Rattle.stream.specs.Shape.{shape_from, shape_of}
use Rattle.feed_lacing.proofs.OnePiece.{shape_at}
use Rattle.feed_lacing.proofs.shape_of.Given as goal

abbrev pub invariant-loop-i : goal.invariant-loop-i
invariant-loop-i l = shape_of l.lacing ≡ shape_from (shape_at l.i) (drop l.i l.lacing)
