-- `feed_numbers::numbers_of` meets its contract. Assumes nothing.
use borrow.Author.Rules.{rules}
use Rattle.feed_numbers.specs.Numbers.{numbers_of}
use Rattle.feed_numbers.proofs.Standing.{stands}
use Rattle.feed_numbers.proofs.numbers_of.Goals as goal

pub returns : goal.returns
unfolding numbers_of
returns c =
    -- the four numbers of the core, and the one of the tally
    let w = c.well_formed.0.1.1.1.1 in
    let y = c.well_formed.1.0.1.1 in
    rw (c.phase_number.ensures, c.pending_number.ensures, c.held_in.ensures, c.position_number.ensures, c.granule_in.ensures)
    (stands c.args.core c.args.tally w.0.1 w.1.0.1 w.1.1.0.1 w.1.1.1.0.1 y.0.1)
