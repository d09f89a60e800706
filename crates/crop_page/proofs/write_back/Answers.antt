-- `crop_page::write_back` meets its contract. Assumes nothing.
use Rattle.std.proofs.Common.{arith, rules}
use Rattle.crop_page.proofs.Pages.{wrote_back}
use Rattle.crop_page.proofs.write_back.Goals as goal

pub returns : goal.returns
returns c =
    let a = c.args in
    wrote_back a.page.now c.header_of-h.result _ _ a.back c.wrapping_sub_u32.result a.out.now _ _
    c.header_of-h.ensures c.lacing_of-lacing.ensures c.body_of-body.ensures (omega arith) c.ranges.back.fits (omega arith)
    c.wrapping_sub_u32.ensures.value c.write_any_page.ensures
