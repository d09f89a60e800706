-- `salvage_page::flags_kept` meets its contract. Assumes nothing.
use Rattle.std.proofs.Common.{arith, rules}
use borrow.Author.Tests.{not-true, not-false}
use Rattle.salvage_page.proofs.flags_kept.Goals as goal

pub returns-then-not-lead : goal.returns-then-not-lead
returns-then-not-lead c = rw c.if-not-lead.true

pub returns-then-flags-eq0 : goal.returns-then-flags-eq0
returns-then-flags-eq0 c = rw c.if-not-lead.false (omega (arith, c.if-flags-eq0.true))

pub returns : goal.returns
returns c = rw c.if-not-lead.false
