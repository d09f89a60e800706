-- `reader::feed_state` meets its contract. Assumes nothing.
use Rattle.reader.proofs.feed_state.Goals as goal

pub returns : goal.returns
returns c =
    rw (← c.tally_from-tally.ensures, ← c.core_from-core.ensures) (c.keep.ensures _ _ c.feed_core.ensures)
