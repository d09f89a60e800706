-- `feed_audio::packets::first_piece` meets its contract: `Turns.antt` has the ways of a turn. Assumes nothing.
use Prim.Native.Nat.{◌*◌, ◌≤◌}
use mathlib.Core.Path.{◌≡◌}
use lib.ListN.{drop}
use Rattle.feed_audio.specs.Code.{first_from}
use Rattle.feed_audio.proofs.Turns.{past}
use Rattle.feed_audio.proofs.packets.first_piece.Given as goal

abbrev pub invariant-loop-i : goal.invariant-loop-i
invariant-loop-i l = (first_from 0 l.lacing ≡ past l.i (first_from l.bytes (drop l.i l.lacing))) × (l.bytes ≤ 255 * l.i)
