-- `salvage::walk::walk_all` meets its contract. Assumes nothing.
use Rattle.std.proofs.Common.{◌≡◌, ◌-◌, ◌^◌, ◌<◌, length, ap, ◌∙◌, arith, rules}
use Rattle.salvage.specs.Code.{Walks}
use Rattle.salvage.proofs.Walking.{walk_begins}
use Rattle.salvage.proofs.Steps.{can_walk, goes, nearer, walk_over}
use Rattle.salvage.proofs.walk.walk_all.Given as goal

abbrev pub invariant-loop-next : goal.invariant-loop-next
invariant-loop-next l = Walks l.buffer l.list l.walk

abbrev pub decreases-loop-next : goal.decreases-loop-next
decreases-loop-next l = length l.list - l.walk.at
