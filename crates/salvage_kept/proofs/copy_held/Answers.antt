-- `salvage_kept::copy_held` meets its contract: a state has no more of the carry buffer than its held bytes. Assumes nothing.
use Rattle.std.proofs.Common.{rules}
use Rattle.salvage_kept.proofs.Carrying.{same_view}
use Rattle.salvage_kept.proofs.copy_held.Goals as goal

pub returns : goal.returns
returns c =
    let a = c.args in
    same_view a.core c.held_in.result _ a.from.now c.held_in.ensures c.copy_first.ensures
