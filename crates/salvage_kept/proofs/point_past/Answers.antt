-- `salvage_kept::point_past` meets its contract. Assumes nothing.
use Rattle.std.proofs.Common.{add-one, rules}
use Rattle.salvage_kept.proofs.point_past.Goals as goal

pub returns : goal.returns
returns c = rw add-one
