-- `salvage_search::next_page` meets its contract: the tables are right. Assumes nothing.
use Prim.Native.Nat.{ℕ}
use mathlib.Core.Path.{◌∙◌}
use borrow.Author.Rules.{rules}
use Rattle.octets.specs.Octets.{Bytes, Octets}
use Rattle.page_crc.specs.Crc.{page_crc}
use Rattle.page_crc_tables.specs.Table.{entry_in}
use Rattle.page_crc.specs.Sliced.{page_sliced}
use Rattle.page_crc.proofs.Page.{page_sliced_right}
use Rattle.salvage_search.proofs.Searching.{same_next}
use Rattle.salvage_search.proofs.next_page.Goals as goal

pub returns : goal.returns
returns c =
    let a = c.args in
    c.next_page_with.ensures
    ∙ same_next (page_sliced (entry_in c.tables-tables.result)) page_crc (λ (p : Bytes) (o : Octets p). page_sliced_right (entry_in c.tables-tables.result) c.tables-tables.ensures p o)
    a.buffer.now a.from (record { below = λ (i : ℕ). (c.shared_slice_known-1.given i).fits })
