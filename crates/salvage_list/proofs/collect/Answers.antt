-- `salvage_list::collect` meets its contract: the tables are right. Assumes nothing.
use Prim.Native.Nat.{ℕ}
use borrow.Author.Rules.{rules}
use Rattle.octets.specs.Octets.{Bytes, Octets}
use Rattle.page_crc.specs.Crc.{page_crc}
use Rattle.page_crc_tables.specs.Table.{entry_in}
use Rattle.page_crc.specs.Sliced.{page_sliced}
use Rattle.page_crc.proofs.Page.{page_sliced_right}
use Rattle.salvage_list.proofs.Same.{same-pages}
use Rattle.salvage_list.proofs.collect.Goals as goal

pub returns : goal.returns
returns c =
    let a = c.args in
    let same =
    same-pages (page_sliced (entry_in c.tables-tables.result)) page_crc (λ (p : Bytes) (o : Octets p). page_sliced_right (entry_in c.tables-tables.result) c.tables-tables.ensures p o)
    a.buffer.now (record { below = λ (i : ℕ). (c.shared_slice_known-1.given i).fits }) in
    rw same at c.collect_with.ensures
