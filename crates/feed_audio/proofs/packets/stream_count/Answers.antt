-- `feed_audio::packets::stream_count` meets its contract. Assumes nothing.
use borrow.Author.Tests.{eq-eqb, ne_eqb}
use Rattle.feed_audio.proofs.packets.stream_count.Goals as goal

pub returns-then-streams-eq0 : goal.returns-then-streams-eq0
returns-then-streams-eq0 c = (rw (eq-eqb _ _ c.if-streams-eq0.true))

pub returns-else-streams-eq0 : goal.returns-else-streams-eq0
returns-else-streams-eq0 c = (rw (ne_eqb _ _ c.if-streams-eq0.false))
