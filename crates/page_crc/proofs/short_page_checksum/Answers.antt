-- `page_crc::short_page_checksum` meets its contract: the parts of the definition, with right tables. Assumes nothing.
use mathlib.Core.Path.{◌∙◌}
use native.Mathlib.Omega.{arith}
use lib.ListN.{length-take}
use Rattle.page_crc.proofs.Page.{parts, page_sliced_right}
use Rattle.page_crc.proofs.short_page_checksum.Goals as goal

pub slice_bounds-update-end : goal.slice_bounds-update-end
slice_bounds-update-end c = simp length-take (omega arith)

pub slice_bounds-update-length : goal.slice_bounds-update-length
slice_bounds-update-length c = simp length-take (omega arith)

pub returns : goal.returns
returns c =
    parts _ c.args.page.now c.min-a.ensures c.min-b.ensures c.update-head.ensures c.update-field.ensures c.update.ensures
    ∙ page_sliced_right _ c.right-halves.ensures c.args.page.now (record { below = λ i. (c.type_inv.page i).fits })
