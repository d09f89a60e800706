-- `embulgri::heads::embulgri_head_read` meets its contract. Assumes nothing.
use borrow.Author.Rules.{rules}
use Rattle.embulgri.proofs.Answers.{head_read, head-refused}
use Rattle.embulgri.proofs.heads.embulgri_head_read.Goals as goal

pub returns-in-Ok : goal.returns-in-Ok
returns-in-Ok c =
    let a = c.args in
    head_read a.packet.now a.fields.now a.mapping.now c.read_head-read.result c.read_head-read.ensures c.in-Ok.is c.numbers_of.ensures

pub returns-in-Err : goal.returns-in-Err
returns-in-Err c =
    let a = c.args in
    head-refused a.packet.now a.fields.now a.mapping.now c.read_head-read.result c.read_head-read.ensures c.in-Err.is c.number.ensures
