-- `page_writer::put_page` meets its contract: three copies, and the checksum over them. Assumes nothing.
use native.Mathlib.Omega.{arith}
use lib.ListN.{length-take}
use Rattle.page_writer.proofs.Writing.{put}
use Rattle.page_writer.proofs.put_page.Goals as goal

pub slice_bounds-renew_checksum-end-2 : goal.slice_bounds-renew_checksum-end-2
slice_bounds-renew_checksum-end-2 c = simp length-take (omega arith)

pub returns : goal.returns
returns c =
    let a = c.args in
    put a.h a.lacing.now a.body.now a.out.now c.start_of-start.result c.copy_at.new.d
    c.copy_at-2.new.d c.copy_at-3.new.d c.renew_checksum.new.page c.requires.body_in_bounds
    c.start_of-start.ensures c.copy_at.ensures c.copy_at-2.ensures c.copy_at-3.ensures c.renew_checksum.ensures
