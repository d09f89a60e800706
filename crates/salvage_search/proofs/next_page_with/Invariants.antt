-- `salvage_search::next_page_with` meets its contract. The loop's invariant: what the search finds from here on is what it finds.
-- Assumes nothing.
use Prim.Native.Nat.{◌≤◌, ◌-◌}
use mathlib.Core.Path.{◌≡◌, sym, ◌∙◌}
use native.Mathlib.Omega.{arith}
use borrow.Author.Rules.{rules}
use lib.ListN.{length, drop}
use Rattle.octets.specs.Octets.{Bytes}
use Rattle.page_crc_tables.specs.Table.{entry_in}
use Rattle.page_crc.specs.Sliced.{page_sliced}
use Rattle.salvage_search.specs.Search.{next_from, next_page}
use Rattle.salvage_search.proofs.Searching.{found, goes_on, over, begins}
use Rattle.salvage_search.proofs.next_page_with.Given as goal

abbrev pub invariant-loop-at : goal.invariant-loop-at
invariant-loop-at l = (l.at ≤ length l.buffer)
    × (next_from (page_sliced (entry_in l.tables)) l.at (drop l.at l.buffer) ≡ next_page (page_sliced (entry_in l.tables)) l.buffer l.from)

abbrev pub decreases-loop-at : goal.decreases-loop-at
decreases-loop-at l = length l.buffer - l.at
