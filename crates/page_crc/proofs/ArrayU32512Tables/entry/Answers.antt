-- The entry is what the definition looks up. Assumes nothing.
use mathlib.Core.Path.{refl}
use Rattle.page_crc_tables.specs.Table.{half_entry_in}
use Rattle.page_crc.proofs.ArrayU32512Tables.entry.Goals as goal

pub returns : goal.returns
unfolding half_entry_in
returns c = refl
