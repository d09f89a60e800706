-- `embulgri::feeding::embulgri_feed` meets its contract. Assumes nothing.
use borrow.Author.Rules.{rules}
use Rattle.stream.specs.Lent.{lent_of}
use Rattle.embulgri.proofs.Readers.{fed, unfed}
use Rattle.embulgri.proofs.feeding.embulgri_feed.Goals as goal

pub returns-in-Ok : goal.returns-in-Ok
returns-in-Ok c =
    let a = c.args in
    fed a.state.now a.page.now (lent_of a.carry.now a.ends.now a.lengths.now a.kept.now a.frames.now) c.feed_state.ensures
    a.out.now c.in-Ok.counts c.in-Ok.is c.page_record.ensures

pub returns-in-Err : goal.returns-in-Err
returns-in-Err c =
    let a = c.args in
    unfed a.state.now a.page.now (lent_of a.carry.now a.ends.now a.lengths.now a.kept.now a.frames.now) c.feed_state.ensures
    a.out.now c.in-Err.why c.in-Err.is c.number.ensures
