-- `feed_memory::is_short` meets its contract. Assumes nothing.
use Rattle.feed_memory.proofs.is_short.Goals as goal

pub returns : goal.returns
returns c = rw (c.is_carry_short.ensures, c.are_lists_short.ensures)
