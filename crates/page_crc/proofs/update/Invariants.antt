-- `page_crc::update` meets its contract, a block a turn. Assumes nothing.
use Prim.Native.Nat.{◌-◌}
use lib.ListN.{length}
use Rattle.page_crc.proofs.Turns.{Left}
use Rattle.page_crc.proofs.update.Given as goal

abbrev pub invariant-loop-i : goal.invariant-loop-i
invariant-loop-i g l = Left (g.T.Tables.entries l.tables) l.r l.s l.x l.i

abbrev pub decreases-loop-i : goal.decreases-loop-i
decreases-loop-i g l = length l.s - l.i
