-- `index_walk::count` meets its contract. Assumes nothing.
use Rattle.std.proofs.Common.{◌-◌, length, ap, arith, rules}
use Rattle.recording.specs.Pages.{pages_of}
use Rattle.index_walk.specs.Records.{index_of}
use Rattle.index_walk.proofs.Walking.{all_left, nothing_left, Counts, counts_on_lem, nearer}
use Rattle.index_walk.proofs.count.Given as goal

abbrev pub invariant-loop-w : goal.invariant-loop-w
invariant-loop-w l = Counts l.stream (length (index_of (pages_of l.stream))) l.w

abbrev pub decreases-loop-w : goal.decreases-loop-w
decreases-loop-w l = length l.stream - l.w.at
