-- `salvage::walk::changes_of` meets its contract. Assumes nothing.
use Rattle.std.proofs.Common.{rules}
use Rattle.salvage.proofs.walk.changes_of.Goals as goal

pub returns : goal.returns
returns c =
    rw (c.gap.ensures, c.has_first.ensures, c.first_of.ensures, c.last_of.ensures)
