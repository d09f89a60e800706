-- `reader::feed` meets its contract. Assumes nothing.
use Rattle.reader.proofs.feed.Goals as goal

pub returns : goal.returns
returns c =
    rw c.fed_of.ensures c.feed_core.ensures
