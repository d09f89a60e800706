-- `page_crc::block` meets its contract, a byte a turn of its two loops. Assumes nothing.
use Prim.Native.Nat.{◌≤◌}
use Rattle.page_crc.proofs.Turns.{Block}
use Rattle.page_crc.proofs.block.Given as goal

abbrev pub invariant-loop-j : goal.invariant-loop-j
invariant-loop-j g l = Block (g.T.Tables.entries l.tables) l.x l.s l.at l.m l.y l.j × (l.j ≤ l.n)

abbrev pub invariant-loop-j-2 : goal.invariant-loop-j-2
invariant-loop-j-2 g l = Block (g.T.Tables.entries l.tables) l.x l.s l.at l.m l.y l.j
