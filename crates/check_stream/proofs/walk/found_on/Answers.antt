-- `check_stream::walk::found_on` meets its contract. Assumes nothing.
use borrow.Author.Rules.{rules}
use Rattle.check_stream.proofs.walk.found_on.Goals as goal

pub returns : goal.returns
returns c = rw (c.both.ensures, c.both-2.ensures, c.both-3.ensures)
