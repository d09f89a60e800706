-- `page_crc::update` meets its contract, a block a turn. Assumes nothing.
use native.Mathlib.Omega.{arith}
use Rattle.page_crc.proofs.Turns.{left-starts, left_16, left_8, left_4, left_2, left_1, left-ends}
use Rattle.page_crc.proofs.update.Goals as goal

pub loop-i-init : goal.loop-i-init
loop-i-init g c = left-starts

pub loop-i-smaller-then-left-ge16 : goal.loop-i-smaller-then-left-ge16
loop-i-smaller-then-left-ge16 g c = omega arith

pub loop-i-preserved-then-left-ge16 : goal.loop-i-preserved-then-left-ge16
loop-i-preserved-then-left-ge16 g c = left_16 (omega arith) c.loop-i.invariant c.block-x.ensures

pub block-x-requires-then-left-ge8 : goal.block-x-requires-then-left-ge8
block-x-requires-then-left-ge8 g c = record { m_bound = omega arith; m_in_bounds = omega arith }

pub overflow_add-i-then-left-ge8 : goal.overflow_add-i-then-left-ge8
overflow_add-i-then-left-ge8 g c = omega arith

pub loop-i-smaller-then-left-ge8 : goal.loop-i-smaller-then-left-ge8
loop-i-smaller-then-left-ge8 g c = omega arith

pub loop-i-preserved-then-left-ge8 : goal.loop-i-preserved-then-left-ge8
loop-i-preserved-then-left-ge8 g c = left_8 (omega arith) (omega arith) c.loop-i.invariant c.block-x-then-left-ge8.ensures

pub block-x-requires-then-left-ge4 : goal.block-x-requires-then-left-ge4
block-x-requires-then-left-ge4 g c = record { m_bound = omega arith; m_in_bounds = omega arith }

pub overflow_add-i-then-left-ge4 : goal.overflow_add-i-then-left-ge4
overflow_add-i-then-left-ge4 g c = omega arith

pub loop-i-smaller-then-left-ge4 : goal.loop-i-smaller-then-left-ge4
loop-i-smaller-then-left-ge4 g c = omega arith

pub loop-i-preserved-then-left-ge4 : goal.loop-i-preserved-then-left-ge4
loop-i-preserved-then-left-ge4 g c = left_4 (omega arith) (omega arith) c.loop-i.invariant c.block-x-then-left-ge4.ensures

pub block-x-requires-then-left-ge2 : goal.block-x-requires-then-left-ge2
block-x-requires-then-left-ge2 g c = record { m_bound = omega arith; m_in_bounds = omega arith }

pub overflow_add-i-then-left-ge2 : goal.overflow_add-i-then-left-ge2
overflow_add-i-then-left-ge2 g c = omega arith

pub loop-i-smaller-then-left-ge2 : goal.loop-i-smaller-then-left-ge2
loop-i-smaller-then-left-ge2 g c = omega arith

pub loop-i-preserved-then-left-ge2 : goal.loop-i-preserved-then-left-ge2
loop-i-preserved-then-left-ge2 g c = left_2 (omega arith) (omega arith) c.loop-i.invariant c.block-x-then-left-ge2.ensures

pub block-x-requires-else-left-ge2 : goal.block-x-requires-else-left-ge2
block-x-requires-else-left-ge2 g c = record { m_bound = omega arith; m_in_bounds = omega arith }

pub overflow_add-i-else-left-ge2 : goal.overflow_add-i-else-left-ge2
overflow_add-i-else-left-ge2 g c = omega arith

pub loop-i-preserved : goal.loop-i-preserved
loop-i-preserved g c = left_1 (omega arith) (omega arith) c.loop-i.invariant c.block-x-else-left-ge2.ensures

pub returns : goal.returns
returns g c = left-ends (omega arith) c.loop-i.invariant
