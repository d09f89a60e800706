-- `salvage_list::collect_serial` meets its contract. Assumes nothing.
use Prim.Native.Nat.{◌-◌}
use mathlib.Core.Path.{◌≡◌, sym, ap, ◌∙◌}
use native.Mathlib.Omega.{arith}
use borrow.Author.Rules.{rules}
use lib.Dec.{eqb}
use lib.ListN.{length}
use Rattle.page_crc_tables.specs.Table.{entry_in}
use Rattle.page_crc.specs.Sliced.{page_sliced}
use Rattle.salvage_list.specs.Collect.{Kept}
use Rattle.salvage_list.proofs.Walking.{nearer}
use Rattle.salvage_list.proofs.Collecting.{Collecting, begins, turns, ends}
use Rattle.salvage_list.proofs.collect_serial.Given as goal

abbrev pub invariant-loop-place : goal.invariant-loop-place
invariant-loop-place l = Collecting (page_sliced (entry_in l.tables)) l.buffer l.serial l.initial.work l.place l.count l.work

abbrev pub decreases-loop-place : goal.decreases-loop-place
decreases-loop-place l = length l.buffer - l.place
