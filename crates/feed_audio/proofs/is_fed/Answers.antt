-- `feed_audio::is_fed` meets its contract. Assumes nothing.
use Rattle.octets.proofs.Tests.{failed, held}
use Rattle.feed_audio.proofs.is_fed.Goals as goal

pub returns-then-not-is_audio : goal.returns-then-not-is_audio
returns-then-not-is_audio c = (rw (failed c.is_audio.ensures c.if-not-is_audio.true))

pub returns-then-short : goal.returns-then-short
returns-then-short c = (rw (held c.is_audio.ensures c.if-not-is_audio.false, c.if-short.true))

pub returns : goal.returns
returns c = (rw (held c.is_audio.ensures c.if-not-is_audio.false, c.if-short.false) c.is_body.ensures)
