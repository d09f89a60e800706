-- `embulgri::streams::embulgri_judge` meets its contract. Assumes nothing.
use borrow.Author.Rules.{rules}
use Rattle.octets.proofs.Tests.{agrees, differs}
use Rattle.embulgri.proofs.Judging.{judged-whole, judged_incomplete, judged-refused}
use Rattle.embulgri.proofs.streams.embulgri_judge.Goals as goal

pub returns-then-number : goal.returns-then-number
returns-then-number c =
    judged_incomplete c.judge.ensures c.args.page.now c.in-Err.refused.why c.in-Err.refused.page c.in-Err.is
    c.number-number.ensures (agrees c.number-number.ensures c.number.ensures c.if-number.true)

pub returns-in-Ok : goal.returns-in-Ok
returns-in-Ok c =
    judged-whole c.judge.ensures c.args.page.now c.in-Ok.field-0.pages c.in-Ok.field-0.packets c.in-Ok.is

pub returns-else-number : goal.returns-else-number
returns-else-number c =
    judged-refused c.judge.ensures c.args.page.now c.in-Err.refused.why c.in-Err.refused.page c.in-Err.is
    c.number-number.ensures (differs c.number-number.ensures c.number.ensures c.if-number.false)
