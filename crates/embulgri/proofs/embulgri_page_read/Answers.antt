-- `embulgri::embulgri_page_read` meets its contract. Assumes nothing.
use borrow.Author.Rules.{rules}
use Rattle.embulgri.proofs.Answers.{page-read, page-refused}
use Rattle.embulgri.proofs.embulgri_page_read.Goals as goal

pub returns-in-Ok : goal.returns-in-Ok
returns-in-Ok c =
    let a = c.args in
    page-read a.page.now a.out.now c.read_page-read.ensures c.lacing_of-values.ensures c.body_of-body.ensures
    c.in-Ok.is

pub returns-in-Err : goal.returns-in-Err
returns-in-Err c =
    let a = c.args in
    page-refused a.page.now a.out.now c.read_page-read.ensures c.in-Err.is c.number.ensures
