-- `embulgri::embulgri_page_write` meets its contract. Assumes nothing.
use borrow.Author.Rules.{rules}
use Rattle.embulgri.proofs.Answers.{page-written, page_unwritten, flags-refused}
use Rattle.embulgri.proofs.embulgri_page_write.Goals as goal

pub returns-then-flags-gt7 : goal.returns-then-flags-gt7
returns-then-flags-gt7 c =
    let a = c.args in
    rw c.number.ensures (flags-refused _ a.lacing.now a.body.now a.out.now a.written.now c.if-flags-gt7.true)

pub returns-in-Ok : goal.returns-in-Ok
returns-in-Ok c =
    let a = c.args in
    page-written _ a.lacing.now a.body.now a.out.now a.written.now c.write_page-wrote.ensures c.in-Ok.is

pub returns-in-Err : goal.returns-in-Err
returns-in-Err c =
    let a = c.args in
    page_unwritten _ a.lacing.now a.body.now a.out.now a.written.now c.write_page-wrote.ensures
    c.in-Err.is c.number-in-Err.ensures
