-- `feed_numbers::tally_from` meets its contract. Assumes nothing.
use mathlib.Core.Path.{refl}
use borrow.Author.Rules.{rules}
use Rattle.feed_numbers.specs.Numbers.{reader_from}
use Rattle.feed_numbers.proofs.tally_from.Goals as goal

pub returns : goal.returns
unfolding reader_from
returns c = refl
