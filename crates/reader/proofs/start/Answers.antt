-- `reader::start` meets its contract. Assumes nothing.
use Rattle.reader.proofs.start.Goals as goal

pub returns : goal.returns
returns c = rw (c.no_tally.ensures, c.start_core.ensures)
