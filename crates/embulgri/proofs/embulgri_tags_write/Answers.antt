-- `embulgri::embulgri_tags_write` meets its contract. Assumes nothing.
use borrow.Author.Rules.{rules}
use Rattle.embulgri.proofs.Answers.{tags-written, tags_unwritten}
use Rattle.embulgri.proofs.embulgri_tags_write.Goals as goal

pub returns-in-Ok : goal.returns-in-Ok
returns-in-Ok c =
    let a = c.args in
    tags-written a.vendor.now a.text.now a.lengths.now a.out.now a.written.now
    c.write_tags-wrote.ensures c.in-Ok.is

pub returns-in-Err : goal.returns-in-Err
returns-in-Err c =
    let a = c.args in
    tags_unwritten a.vendor.now a.text.now a.lengths.now a.out.now a.written.now
    c.write_tags-wrote.ensures c.in-Err.is c.number.ensures
