-- `salvage::write_pages` meets its contract. Assumes nothing.
use Rattle.std.proofs.Common.{◌≡◌, ◌-◌, ◌^◌, ◌<◌, length, ap, ◌∙◌, arith, rules}
use Rattle.salvage.specs.Code.{Walks}
use Rattle.salvage.proofs.Walking.{walk_begins}
use Rattle.salvage.proofs.Steps.{can_walk, goes, nearer, walk_over}
use Rattle.salvage.proofs.Filled.{Pages, pages_begin, can_put, pages_on, pages-end}
use Rattle.salvage.proofs.write_pages.Given as goal

abbrev pub invariant-loop-next : goal.invariant-loop-next
invariant-loop-next l = Walks l.buffer l.list l.walk × Pages l.buffer l.list l.initial.out l.walk l.out

abbrev pub decreases-loop-next : goal.decreases-loop-next
decreases-loop-next l = length l.list - l.walk.at
