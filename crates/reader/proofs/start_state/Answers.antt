-- `reader::start_state` meets its contract. Assumes nothing.
use Rattle.reader.proofs.start_state.Goals as goal

pub returns : goal.returns
returns c = rw (c.no_tally.ensures, c.start_core.ensures) at c.numbers_of.ensures
