-- `salvage_kept::point_after` meets its contract. Assumes nothing.
use Rattle.std.proofs.Common.{add-one, rules}
use Rattle.salvage_kept.proofs.point_after.Goals as goal

pub returns : goal.returns
returns c =
    let a = c.args in
    rw (c.next_prior.ensures, c.wrapping_add_u32.ensures.value, add-one a.next.index)
