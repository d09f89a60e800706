-- `page_writer::write_page` meets its contract: with flags of at most 7 the checks are those for any flags. Assumes nothing.
use Rattle.page_writer.proofs.Writing.{flags-refused, flags_taken}
use Rattle.page_writer.proofs.write_page.Goals as goal

pub returns-then-unknown : goal.returns-then-unknown
returns-then-unknown c =
    let a = c.args in
    flags-refused a.h a.lacing.now a.body.now a.out.now c.if-unknown.true

pub returns : goal.returns
returns c =
    let a = c.args in
    flags_taken a.h a.lacing.now a.body.now a.out.now _ _ c.if-unknown.false c.write_any_page.ensures
