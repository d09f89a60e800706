-- `feed_audio::packets::same_on` meets its contract. Assumes nothing.
use Rattle.feed_audio.proofs.Alike.{on_page_lem}
use Rattle.feed_audio.proofs.packets.same_on.Goals as goal

pub returns-then-several : goal.returns-then-several
returns-then-several c = tt

pub returns-in-Nothing : goal.returns-in-Nothing
returns-in-Nothing c =
    on_page_lem c.same_packets.result _ _ _ _ c.in-Nothing.is c.if-several.false c.same_packets.ensures

pub returns-in-Dropped : goal.returns-in-Dropped
returns-in-Dropped c = tt

pub returns-in-Held : goal.returns-in-Held
returns-in-Held c = tt
