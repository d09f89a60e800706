-- `page_crc_tables::halves::halves` meets its contract: the rule of the tables is one computed test. Assumes nothing.
use mathlib.Core.Path.{refl}
use Rattle.page_crc_tables.specs.Register.{bits, bit, poly}
use Rattle.page_crc_tables.proofs.Entries.{halves_right}
use Rattle.page_crc_tables.proofs.halves.halves.Goals as goal

pub returns : goal.returns
unfolding bits bit poly
returns c = halves_right _ refl tt
