-- `page_crc::block` meets its contract, a byte a turn of its two loops. Assumes nothing.
use mathlib.Core.Path.{◌≡◌, refl}
use native.Mathlib.Omega.{arith}
use Rattle.page_crc.proofs.Turns.{block_starts, block_turn, block_ends}
use Rattle.page_crc.proofs.block.Goals as goal

pub loop-j-init : goal.loop-j-init
loop-j-init g c = (block_starts c.shifted-y.ensures, omega arith)

pub loop-j-preserved : goal.loop-j-preserved
loop-j-preserved g c = (block_turn (omega arith) (omega arith) c.loop-j.invariant.0 refl c.added-y.ensures, omega arith)

pub loop-j-2-init : goal.loop-j-2-init
loop-j-2-init g c = let all : c.loop-j.j ≡ c.min-n.result = omega arith in rw all at c.loop-j.invariant.0

pub loop-j-2-preserved : goal.loop-j-2-preserved
loop-j-2-preserved g c = block_turn (omega arith) (omega arith) c.loop-j-2.invariant refl c.added-y-in-loop-j-2.ensures

pub returns : goal.returns
returns g c = block_ends (omega arith) c.loop-j-2.invariant
