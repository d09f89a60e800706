-- What is proved of the tables, in addition to the contracts. Assumes nothing.
use Rattle.std.specs.Prelude.{List, ℕ}
use Rattle.page_crc_tables.specs.Table.{Right, RightHalves, half_entry_in}

-- with right halves the entry of each byte is right (Entries)
abbrev pub WholeByHalves : Type 0
WholeByHalves = (t : List ℕ) → RightHalves t → Right (half_entry_in t)
