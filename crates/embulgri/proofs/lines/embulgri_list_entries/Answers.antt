-- `embulgri::lines::embulgri_list_entries` meets its contract. Assumes nothing.
use mathlib.Core.Path.{refl}
use borrow.Author.Rules.{rules}
use Rattle.embulgri.proofs.lines.embulgri_list_entries.Goals as goal

pub returns : goal.returns
returns c =
    record { listed = c.put_entries-listed.result; lines = c.put_entries-listed.ensures; numbers = refl }
