-- `embulgri::heads::embulgri_head_write` meets its contract. Assumes nothing.
use borrow.Author.Rules.{rules}
use Rattle.octets.proofs.Tests.{failed, held}
use Rattle.embulgri.proofs.Answers.{numbers_unfit, head-written, head_unwritten}
use Rattle.embulgri.proofs.heads.embulgri_head_write.Goals as goal

pub returns-then-not-numbers_fit : goal.returns-then-not-numbers_fit
returns-then-not-numbers_fit c =
    let a = c.args in
    rw c.number.ensures
    (numbers_unfit a.fields.now a.mapping.now a.matrix.now a.out.now a.written.now (failed c.numbers_fit.ensures c.if-not-numbers_fit.true))

pub returns-in-Ok : goal.returns-in-Ok
returns-in-Ok c =
    let a = c.args in
    head-written a.fields.now a.mapping.now a.matrix.now a.out.now a.written.now c.head_of-head.ensures
    (held c.numbers_fit.ensures c.if-not-numbers_fit.false) c.write_head-wrote.ensures c.in-Ok.is

pub returns-in-Err : goal.returns-in-Err
returns-in-Err c =
    let a = c.args in
    head_unwritten a.fields.now a.mapping.now a.matrix.now a.out.now a.written.now c.head_of-head.ensures
    (held c.numbers_fit.ensures c.if-not-numbers_fit.false) c.write_head-wrote.ensures c.in-Err.is c.number-in-Err.ensures
