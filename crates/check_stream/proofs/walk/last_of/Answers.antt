-- `check_stream::walk::last_of` meets its contract. Assumes nothing.
use borrow.Author.Rules.{rules}
use borrow.Author.Tests.{ne_eqb}
use Rattle.check_stream.proofs.walk.last_of.Goals as goal

pub returns-then-packets-eq0 : goal.returns-then-packets-eq0
returns-then-packets-eq0 c = rw c.if-packets-eq0.true

pub returns : goal.returns
returns c = rw (ne_eqb c.args.packets 0 c.if-packets-eq0.false)
