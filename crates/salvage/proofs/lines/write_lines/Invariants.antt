-- `salvage::lines::write_lines` meets its contract. Assumes nothing.
use Rattle.std.proofs.Common.{◌≡◌, ◌-◌, ◌^◌, ◌<◌, length, ap, ◌∙◌, arith, rules}
use Rattle.salvage.specs.Salvaging.{what_in, place_in, size_in}
use Rattle.salvage.specs.Code.{Walks}
use Rattle.salvage.proofs.Walking.{walk_begins}
use Rattle.salvage.proofs.Steps.{can_walk, lines-here, lines-over, goes, nearer, walk_over}
use Rattle.salvage.proofs.Filled.{Column, column_begin, column_on, column_end}
use Rattle.salvage.proofs.lines.write_lines.Given as goal

abbrev pub invariant-loop-next : goal.invariant-loop-next
invariant-loop-next l = Walks l.buffer l.list l.walk × Column what_in l.buffer l.list l.initial.what l.walk l.what × Column place_in l.buffer l.list l.initial.places l.walk l.places
    × Column size_in l.buffer l.list l.initial.sizes l.walk l.sizes

abbrev pub decreases-loop-next : goal.decreases-loop-next
decreases-loop-next l = length l.list - l.walk.at
