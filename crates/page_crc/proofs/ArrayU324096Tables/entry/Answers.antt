-- The entry is what the definition looks up. Assumes nothing.
use mathlib.Core.Path.{refl}
use Rattle.page_crc_tables.specs.Table.{entry_in}
use Rattle.page_crc.proofs.ArrayU324096Tables.entry.Goals as goal

pub returns : goal.returns
unfolding entry_in
returns c = refl
