-- `embulgri::index::embulgri_index_seek` meets its contract. Assumes nothing.
use borrow.Author.Rules.{rules}
use Rattle.embulgri.proofs.Indexes.{sought, unsought}
use Rattle.embulgri.proofs.index.embulgri_index_seek.Goals as goal

pub returns-in-Ok : goal.returns-in-Ok
returns-in-Ok c =
    sought c.seek.ensures c.in-Ok.sought c.in-Ok.is c.store_answer.ensures

pub returns-in-Err : goal.returns-in-Err
returns-in-Err c =
    let a = c.args in
    unsought c.seek.ensures a.out.now a.place.now c.in-Err.why c.in-Err.is c.number.ensures
