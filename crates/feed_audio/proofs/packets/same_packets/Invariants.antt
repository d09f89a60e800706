-- `feed_audio::packets::same_packets` meets its contract: `Alike.antt` has the ways of a turn. Assumes nothing.
use Rattle.feed_audio.proofs.Alike.{Alikes}
use Rattle.feed_audio.proofs.packets.same_packets.Given as goal

abbrev pub invariant-loop-x : goal.invariant-loop-x
invariant-loop-x l = Alikes l.toc l.lacing l.body l.count l.start l.bytes l.x-index
