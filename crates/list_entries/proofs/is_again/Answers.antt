-- `list_entries::is_again` meets its contract. Assumes nothing.
use native.Mathlib.Omega.{arith}
use borrow.Author.Tests.{lt-ltb, le-ltb, le-leb, lt-leb}
use Rattle.list_entries.proofs.is_again.Goals as goal

pub returns-then-c-eq0 : goal.returns-then-c-eq0
returns-then-c-eq0 c = let k = c.args.c in rw (le-ltb 0 k.digits (omega arith))

pub returns-then-end-c : goal.returns-then-end-c
returns-then-end-c c =
    let a = c.args in
    rw (lt-ltb 0 a.c.digits (omega arith), lt-leb a.c.base a.end (omega arith))

pub returns : goal.returns
returns c =
    let a = c.args in
    rw (lt-ltb 0 a.c.digits (omega arith), le-leb a.c.base a.end (omega arith))
