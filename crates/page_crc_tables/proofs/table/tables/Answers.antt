-- `page_crc_tables::table::tables` meets its contract: the rule of the tables is one computed test. Assumes nothing.
use mathlib.Core.Path.{refl}
use Rattle.page_crc_tables.specs.Register.{bits, bit, poly}
use Rattle.page_crc_tables.proofs.Entries.{tables_right}
use Rattle.page_crc_tables.proofs.table.tables.Goals as goal

pub returns : goal.returns
unfolding bits bit poly
returns c = tables_right _ refl tt
