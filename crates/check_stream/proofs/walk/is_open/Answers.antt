-- `check_stream::walk::is_open` meets its contract. Assumes nothing.
use Prim.Native.Nat.{◌-◌}
use borrow.Author.Rules.{rules}
use borrow.Author.Tests.{ne_eqb}
use lib.ListN.{length, get_or}
use Rattle.check_stream.proofs.Laws.{not-below}
use Rattle.check_stream.proofs.walk.is_open.Goals as goal

pub returns-then-n-eq0 : goal.returns-then-n-eq0
returns-then-n-eq0 c = rw c.if-n-eq0.true

pub returns : goal.returns
returns c =
    let a = c.args in
    rw (ne_eqb (length a.lacing.now) 0 c.if-n-eq0.false) (not-below (get_or a.lacing.now (length a.lacing.now - 1) 0))
