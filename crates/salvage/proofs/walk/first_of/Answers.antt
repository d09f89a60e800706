-- `salvage::walk::first_of` meets its contract. Assumes nothing.
use Rattle.std.proofs.Common.{rules}
use Rattle.salvage.proofs.walk.first_of.Goals as goal

pub returns-then-lead : goal.returns-then-lead
returns-then-lead c = rw c.if-lead.true c.first_cut.ensures.bytes
