-- `index_lines::put_found` meets its contract: four numbers, a space between them. Assumes nothing.
use Rattle.list_lines.specs.Lines.{entry_line}
use Rattle.index_lines.specs.Lines.{found_line}
use Rattle.index_lines.proofs.put_found.Goals as goal

pub returns : goal.returns
unfolding entry_line found_line
returns c = c.put_entry.ensures
