-- `text_escape::fits_within` meets its contract. The loop's invariant: what is left of the text and of the room decides. Assumes nothing.
use mathlib.Core.Path.{◌≡◌}
use lib.Dec.{leb}
use lib.ListN.{length, drop}
use Rattle.text_escape.specs.Escape.{escaped_from, escaped}
use Rattle.text_escape.proofs.fits_within.Given as goal

abbrev pub invariant-loop-i : goal.invariant-loop-i
invariant-loop-i l = leb (length (escaped_from l.k (drop l.i l.s))) l.left ≡ leb (length (escaped l.s)) l.room
