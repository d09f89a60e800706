-- `page_crc::page_checksum_with` meets its contract: the ends of the field, cut to the slice's length, give the parts of
-- the definition. Assumes nothing.
use native.Mathlib.Omega.{arith}
use lib.ListN.{length-take}
use Rattle.page_crc.proofs.Page.{parts, whole}
use Rattle.page_crc.proofs.page_checksum_with.Goals as goal

pub returns-then-page-ge-CHECKSUM_END : goal.returns-then-page-ge-CHECKSUM_END
returns-then-page-ge-CHECKSUM_END c =
    whole _ c.args.page.now (omega arith) c.head_checksum-head.ensures c.update.ensures

pub slice_bounds-update-end-2 : goal.slice_bounds-update-end-2
slice_bounds-update-end-2 c = simp length-take (omega arith)

pub slice_bounds-update-length-2 : goal.slice_bounds-update-length-2
slice_bounds-update-length-2 c = simp length-take (omega arith)

pub returns : goal.returns
returns c =
    parts _ c.args.page.now c.min-a.ensures c.min-b.ensures
    c.update-head.ensures c.update-field.ensures c.update-2.ensures
