-- `feed_page::feed_core` meets its contract: `Pages` has 1 and 2, and `feed_read` the others. Assumes nothing.
use mathlib.Core.Path.{sym}
use Rattle.page_crc.specs.Crc.{page_crc}
use Rattle.std.proofs.lemmas.Result.{err_from_is_err_and}
use Rattle.stream.specs.Lent.{Lent, lent_of}
use Rattle.feed_page.proofs.Pages.{none_unread, some_unread}
use Rattle.feed_page.proofs.feed_core.Goals as goal

pub returns : goal.returns
returns c =
    let a = c.args in
    let m : Lent = lent_of a.carry.now a.ends.now a.lengths.now a.kept.now a.frames.now in
    let passed = none_unread a.core.phase m (sym c.in_ok-check_unread.ensures) in
    c.feed_read.ensures page_crc (record { reads = c.read_page-read.ensures; going = passed.0; room = passed.1 })

pub returns-in_err-check_unread : goal.returns-in_err-check_unread
returns-in_err-check_unread c =
    let a = c.args in
    let m : Lent = lent_of a.carry.now a.ends.now a.lengths.now a.kept.now a.frames.now in
    let p = err_from_is_err_and c.from_residual.result c.from_residual.ensures.1 in
    rw (p.1, p.2) (some_unread page_crc a.core a.tally m a.page.now _ (sym c.in_err-check_unread.ensures))
