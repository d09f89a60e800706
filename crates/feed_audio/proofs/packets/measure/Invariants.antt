-- `feed_audio::packets::measure` meets its contract: `Measuring.antt` has the ways of a turn. Assumes nothing.
use lib.ListN.{length, drop, take}
use Rattle.stream.specs.Page.{whole_from}
use Rattle.feed_audio.specs.Code.{measures_in, in_front, measured}
use Rattle.feed_audio.proofs.Measuring.{Measuring}
use Rattle.feed_audio.proofs.packets.measure.Given as goal

abbrev pub invariant-loop-i : goal.invariant-loop-i
invariant-loop-i l = Measuring l.streams l.lacing l.body
    (in_front (measures_in (take l.n l.initial.measures)) (measured l.streams (whole_from 0 (drop l.from l.lacing) (drop l.at l.body)))) l.n
    (length l.initial.measures) l.from l.measures l.count l.sum l.start l.bytes l.i
