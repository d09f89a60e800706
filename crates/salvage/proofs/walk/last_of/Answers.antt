-- `salvage::walk::last_of` meets its contract. Assumes nothing.
use Rattle.std.proofs.Common.{rules}
use Rattle.salvage.proofs.walk.last_of.Goals as goal

pub returns-then-trail : goal.returns-then-trail
returns-then-trail c = rw c.if-trail.true c.last_cut.ensures.bytes
