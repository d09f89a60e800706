-- `feed_lacing::after_first` meets its contract. Assumes nothing.
use mathlib.Core.Path.{◌≡◌}
use lib.ListN.{drop}
use Rattle.stream.specs.Packets.{after_first}
use Rattle.feed_lacing.proofs.after_first.Given as goal

abbrev pub invariant-loop-i : goal.invariant-loop-i
invariant-loop-i l = after_first (drop l.i l.lacing) ≡ after_first l.lacing
