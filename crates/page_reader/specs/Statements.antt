-- What is proved of pages, in addition to the contracts. Assumes nothing.
use Rattle.std.specs.Prelude.{ℕ, ◌≡◌, List}
use Rattle.octets.specs.Octets.{Bytes, Octets}
use Rattle.page_crc.specs.Crc.{page_crc}
use Rattle.page_crc.specs.Sliced.{page_sliced}
use Rattle.page_crc_tables.specs.Table.{Right, entry_in}
use Rattle.page_reader.specs.Reading.{read_page}

-- reading by lent tables is reading, where the tables are right
abbrev pub LentReads : Type 0
LentReads = (t : List ℕ) → Right (entry_in t) → (p : Bytes) → Octets p → read_page (page_sliced (entry_in t)) p ≡ read_page page_crc p
