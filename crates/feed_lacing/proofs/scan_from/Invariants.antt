-- `feed_lacing::scan_from` meets its contract: `Scanning.antt` has the ways of a turn. Assumes nothing.
use mathlib.Core.Path.{◌≡◌}
use lib.ListN.{drop}
use Rattle.feed_lacing.specs.Scan.{scan_of}
use Rattle.feed_lacing.proofs.scan_from.Given as goal

abbrev pub invariant-loop-x : goal.invariant-loop-x
invariant-loop-x l = scan_of l.held l.lacing ≡ scan_of l.bytes (drop l.x-index l.lacing)
