-- `salvage_page::body_kept` meets its contract. Assumes nothing.
use Rattle.std.proofs.Common.{rules}
use Rattle.page_layout.specs.Places.{count_at}
use Rattle.page_layout.specs.Page.{lacing_of}
use Rattle.stream.specs.Page.{page_of}
use Rattle.salvage_page.proofs.Kept.{kept-body, few-values, few-kept}
use Rattle.salvage_page.proofs.body_kept.Goals as goal

pub body_without_trail-body-requires : goal.body_without_trail-body-requires
body_without_trail-body-requires c =
    rw c.lacing_of-lacing.ensures (few-values _ (c.shared_slice_known-1.given count_at).fits)

pub body_without_lead-requires : goal.body_without_lead-requires
body_without_lead-requires c =
    let a = c.args in
    rw (c.without_trail.ensures, c.lacing_of-lacing.ensures)
    (few-kept a.form.trail (lacing_of a.page.now) (few-values a.page.now (c.shared_slice_known-1.given count_at).fits))

pub returns : goal.returns
unfolding page_of
returns c =
    let a = c.args in
    rw (
      c.body_without_lead.ensures,
      c.without_trail.ensures,
      c.body_without_trail-body.ensures,
      c.body_of.ensures,
      c.lacing_of-lacing.ensures,
    )
    (kept-body a.form.lead a.form.trail (page_of a.page.now))
