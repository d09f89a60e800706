-- `feed_page::feed_core_with` meets its contract: `Pages` has 1 and 2, and `feed_read` the others. Assumes nothing.
use mathlib.Core.Path.{sym, ap, ◌∙◌}
use borrow.Author.Rules.{rules}
use Rattle.page_crc_tables.specs.Table.{entry_in}
use Rattle.page_crc.specs.Sliced.{page_sliced}
use Rattle.feed_fields.specs.Checked.{found}
use Rattle.stream.specs.Lent.{Lent, lent_of}
use Rattle.feed_page.proofs.Pages.{none_unread, some_unread}
use Rattle.feed_page.proofs.feed_core_with.Goals as goal

pub returns-in-Passed : goal.returns-in-Passed
returns-in-Passed c =
    let a = c.args in
    let m : Lent = lent_of a.carry.now a.ends.now a.lengths.now a.kept.now a.frames.now in
    let passed = none_unread a.core.phase m (sym c.check_unread.ensures ∙ ap found c.in-Passed.is) in
    c.feed_read.ensures (page_sliced (entry_in a.tables.now)) (record { reads = c.read_page_with-read.ensures; going = passed.0; room = passed.1 })

pub returns-in-Refused : goal.returns-in-Refused
returns-in-Refused c =
    let a = c.args in
    let m : Lent = lent_of a.carry.now a.ends.now a.lengths.now a.kept.now a.frames.now in
    some_unread (page_sliced (entry_in a.tables.now)) a.core a.tally m a.page.now c.in-Refused.why
    (sym c.check_unread.ensures ∙ ap found c.in-Refused.is)
