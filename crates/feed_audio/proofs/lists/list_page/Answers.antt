-- `feed_audio::lists::list_page` meets its contract. Assumes nothing.
use Rattle.feed_audio.specs.Code.{count_of}
use Rattle.feed_audio.specs.Alike.{SinglesOn}
use Rattle.feed_audio.proofs.Alike.{known_alike, alike-measured}
use Rattle.feed_audio.proofs.lists.list_page.Goals as goal

-- the packets that are alike
pub list_alike-requires : goal.list_alike-requires
list_alike-requires c =
    let a = c.args in
    let alike : SinglesOn c.in-Some.same.count c.in-Some.same.toc a.core.pending (count_of a.core.streams) a.lacing.now a.body.now =
    known_alike a.core.pending a.lacing.now a.body.now c.in-Some.is c.stream_count-streams.ensures c.same_on.ensures in
    record { few = alike.singles.few; room = c.requires.room; small = c.requires.small }

pub returns-in-Some : goal.returns-in-Some
returns-in-Some c =
    let a = c.args in
    let alike : SinglesOn c.in-Some.same.count c.in-Some.same.toc a.core.pending (count_of a.core.streams) a.lacing.now a.body.now =
    known_alike a.core.pending a.lacing.now a.body.now c.in-Some.is c.stream_count-streams.ensures c.same_on.ensures in
    rw (alike-measured a.first.values a.first.bytes a.carry.now alike) c.list_alike.ensures
