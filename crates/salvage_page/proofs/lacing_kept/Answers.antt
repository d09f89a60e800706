-- `salvage_page::lacing_kept` meets its contract. Assumes nothing.
use Rattle.std.proofs.Common.{rules}
use Rattle.stream.specs.Page.{page_of}
use Rattle.salvage_page.proofs.Kept.{kept-lacing}
use Rattle.salvage_page.proofs.lacing_kept.Goals as goal

pub returns : goal.returns
unfolding page_of
returns c =
    let a = c.args in
    rw (c.without_lead.ensures, c.without_trail-kept.ensures, c.lacing_of.ensures)
    (kept-lacing a.form.lead a.form.trail (page_of a.page.now))
