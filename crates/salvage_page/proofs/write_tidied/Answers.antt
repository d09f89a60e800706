-- `salvage_page::write_tidied` meets its contract. Assumes nothing.
use Rattle.std.proofs.Common.{rules}
use Rattle.salvage_page.proofs.Kept.{wrote_as}
use Rattle.salvage_page.proofs.write_tidied.Goals as goal

pub returns : goal.returns
returns c =
    let a = c.args in
    wrote_as a.form a.number a.page.now _ c.header_kept-h.ensures c.lacing_kept-lacing.ensures c.body_kept-body.ensures
    c.write_any_page.ensures
