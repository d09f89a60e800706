-- `reader::of_state` meets its contract. Assumes nothing.
use Rattle.reader.proofs.of_state.Goals as goal

pub returns : goal.returns
returns c = rw (c.tally_from.ensures, c.core_from.ensures)
