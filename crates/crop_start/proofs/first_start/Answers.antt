-- `crop_start::first_start` meets its contract. Assumes nothing.
use Prim.Native.Nat.{◌-◌}
use mathlib.Core.Path.{◌≡◌}
use native.Mathlib.Omega.{arith}
use borrow.Author.Rules.{rules}
use borrow.Author.Tests.{ne_eqb}
use lib.ListN.{get_or}
use Rattle.crop_start.proofs.first_start.Goals as goal

pub returns-then-packets-eq0 : goal.returns-then-packets-eq0
returns-then-packets-eq0 c = rw c.if-packets-eq0.true

pub returns-then-ends-lengths : goal.returns-then-ends-lengths
returns-then-ends-lengths c =
    let a = c.args in
    let less : get_or a.ends.now 0 0 - get_or a.lengths.now 0 0 ≡ 0 = omega arith in
    rw (ne_eqb a.packets 0 c.if-packets-eq0.false, less)

pub returns : goal.returns
returns c = rw (ne_eqb c.args.packets 0 c.if-packets-eq0.false)
