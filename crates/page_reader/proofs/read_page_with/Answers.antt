-- `page_reader::read_page_with` meets its contract. Assumes nothing.
use mathlib.Core.Path.{sym, ap, ◌∙◌}
use borrow.Author.Rules.{rules}
use Rattle.refusal.specs.Told.{gives}
use Rattle.page_crc_tables.specs.Table.{entry_in}
use Rattle.page_crc.specs.Sliced.{page_sliced}
use Rattle.octets.proofs.Tests.{agrees, differs, failed, held}
use Rattle.page_reader.proofs.Reading.{not_one_page, wrong_checksum, right_page}
use Rattle.page_reader.proofs.read_page_with.Goals as goal

pub returns-then-not-is_one_page : goal.returns-then-not-is_one_page
returns-then-not-is_one_page c =
    let call = c.is_one_page in
    let a = c.args in
    sym (not_one_page (page_sliced (entry_in a.tables.now)) a.page.now (failed call.ensures c.if-not-is_one_page.true))

pub returns-then-page_checksum_with-number32 : goal.returns-then-page_checksum_with-number32
returns-then-page_checksum_with-number32 c =
    let call = c.is_one_page in
    let a = c.args in
    sym
    (wrong_checksum (page_sliced (entry_in a.tables.now)) a.page.now (held call.ensures c.if-not-is_one_page.false)
    (differs c.page_checksum_with.ensures c.number32.ensures c.if-page_checksum_with-number32.true))

pub returns : goal.returns
returns c =
    let call = c.is_one_page in
    let a = c.args in
    ap gives c.header_of.ensures
    ∙ sym
    (right_page (page_sliced (entry_in a.tables.now)) a.page.now (held call.ensures c.if-not-is_one_page.false)
    (agrees c.page_checksum_with.ensures c.number32.ensures c.if-page_checksum_with-number32.false))
