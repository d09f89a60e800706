-- `check_stream::put_finding` meets its contract. Assumes nothing.
use mathlib.Core.Path.{refl}
use native.Mathlib.Omega.{arith}
use borrow.Author.Rules.{rules}
use Rattle.check_stream.proofs.put_finding.Goals as goal

pub returns-then-there : goal.returns-then-there
returns-then-there c =
    rw c.if-there.true
    (record { next = refl; most = omega arith; kind = c.store_at.ensures; page = c.store_at-then-there.ensures })

pub returns : goal.returns
returns c = rw c.if-there.false (record { next = omega arith; most = omega arith; kind = refl; page = refl })
