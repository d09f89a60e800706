-- `salvage_list::serial_of` meets its contract. The loop's invariant: the pages from the place on have the serial that all have.
-- Assumes nothing.
use Prim.Native.Nat.{◌-◌}
use mathlib.Core.Path.{◌≡◌, sym, ap, ◌∙◌}
use mathlib.Core.Bool.{true, false}
use native.Mathlib.Omega.{arith}
use borrow.Author.Rules.{rules}
use lib.ListN.{length}
use Rattle.page_crc_tables.specs.Table.{entry_in}
use Rattle.page_crc.specs.Sliced.{page_sliced}
use Rattle.page_flags.specs.Flags.{is_first_page}
use Rattle.salvage_rules.specs.Good.{good_pages, serial_in}
use Rattle.salvage_list.proofs.Walking.{left, Found, found, all_left, nearer}
use Rattle.salvage_list.proofs.Collecting.{no_serial, serial-here, serial-later}
use Rattle.salvage_list.proofs.serial_of.Given as goal

abbrev pub invariant-loop-place : goal.invariant-loop-place
invariant-loop-place l = Found (page_sliced (entry_in l.tables)) l.buffer l.place
    × (serial_in (left (page_sliced (entry_in l.tables)) l.buffer l.place) ≡ serial_in (good_pages (page_sliced (entry_in l.tables)) l.buffer))

abbrev pub decreases-loop-place : goal.decreases-loop-place
decreases-loop-place l = length l.buffer - l.place
