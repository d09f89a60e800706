-- `salvage_kept::begin` meets its contract. Assumes nothing.
use Rattle.std.proofs.Common.{rules}
use Rattle.salvage_kept.proofs.begin.Goals as goal

pub returns : goal.returns
returns c = rw (c.start_core.ensures, c.no_prior.ensures)
