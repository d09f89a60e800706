-- `salvage_kept::without` meets its contract: `Dropping` has its ways. Assumes nothing.
use Rattle.std.proofs.Common.{sym, ◌∙◌, rules}
use Rattle.salvage_kept.proofs.Dropping.{drops_on, drops_back}
use Rattle.salvage_kept.proofs.without.Goals as goal

pub returns-then-agree : goal.returns-then-agree
returns-then-agree c =
    let a = c.args in
    drops_on a.buffer.now a.list.now a.pass a.index a.carry.now a.keep.now c.store_at.ensures
    c.is_cut_after-cut.ensures (sym c.agree.ensures ∙ c.if-agree.true) c.point_past.ensures

pub returns : goal.returns
returns c =
    let a = c.args in
    drops_back a.buffer.now a.list.now a.pass a.index a.carry.now a.keep.now c.store_at.ensures
    c.copy_held.ensures c.begin.ensures
