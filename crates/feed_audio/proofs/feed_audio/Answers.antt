-- `feed_audio::feed_audio` meets its contract: an audio page is fed, and of anything else nothing is told. Assumes nothing.
use Rattle.octets.proofs.Tests.{failed, held}
use Rattle.stream.specs.Readings.{readings}
use Rattle.feed_audio.proofs.Checking.{fitting, not-due, due}
use Rattle.stream.specs.Lent.{Lent, lent_of}
use Rattle.feed_audio.proofs.feed_audio.Goals as goal

pub returns-then-not-is_fed : goal.returns-then-not-is_fed
returns-then-not-is_fed c crc =
    let a = c.args in
    let lent : Lent = lent_of c.args.carry.now c.args.ends.now c.args.lengths.now c.args.kept.now c.args.frames.now in
    not-due a.core a.tally a.h a.lacing.now a.body.now lent (readings crc)
    (failed (rw c.is_short-short.ensures at c.is_fed.ensures) c.if-not-is_fed.true)

pub feed_page-requires : goal.feed_page-requires
feed_page-requires c =
    let a = c.args in
    let lent : Lent = lent_of c.args.carry.now c.args.ends.now c.args.lengths.now c.args.kept.now c.args.frames.now in
    fitting a.core a.tally a.h a.lacing.now a.body.now lent
    (held (rw c.is_short-short.ensures at c.is_fed.ensures) c.if-not-is_fed.false)

pub returns : goal.returns
returns c crc =
    let a = c.args in
    let lent : Lent = lent_of c.args.carry.now c.args.ends.now c.args.lengths.now c.args.kept.now c.args.frames.now in
    due a.core a.tally a.h a.lacing.now a.body.now lent (readings crc)
    (held (rw c.is_short-short.ensures at c.is_fed.ensures) c.if-not-is_fed.false) c.feed_page.result (c.feed_page.ensures crc)
