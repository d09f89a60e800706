-- `feed_numbers::core_from` meets its contract. Assumes nothing.
use borrow.Author.Rules.{rules}
use Rattle.feed_numbers.specs.Numbers.{reader_from}
use Rattle.feed_numbers.proofs.core_from.Goals as goal

pub returns : goal.returns
unfolding reader_from
returns c =
    rw (c.position_from.ensures, c.pending_from.ensures, c.phase_from.ensures)
