-- `salvage::walk::begin` meets its contract. Assumes nothing.
use Rattle.std.proofs.Common.{rules}
use Rattle.salvage.proofs.walk.begin.Goals as goal

pub returns : goal.returns
returns c = rw c.no_prior.ensures
