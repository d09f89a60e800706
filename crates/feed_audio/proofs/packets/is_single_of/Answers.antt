-- `feed_audio::packets::is_single_of` meets its contract. Assumes nothing.
use Rattle.feed_audio.proofs.packets.is_single_of.Goals as goal

pub returns : goal.returns
returns c = rw (c.is_single.ensures, ← c.byte_at-first.ensures)
