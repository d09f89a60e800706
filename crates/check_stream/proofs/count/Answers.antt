-- `check_stream::count` meets its contract. Assumes nothing.
use borrow.Author.Rules.{rules}
use Rattle.check_stream.proofs.count.Goals as goal

pub returns : goal.returns
returns c = c.find.ensures.count
