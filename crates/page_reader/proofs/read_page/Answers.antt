-- `page_reader::read_page` meets its contract. Assumes nothing.
use mathlib.Core.Path.{sym, ap, ◌∙◌}
use borrow.Author.Rules.{rules}
use Rattle.refusal.specs.Told.{gives}
use Rattle.page_crc.specs.Crc.{page_crc}
use Rattle.octets.proofs.Tests.{agrees, differs, failed, held}
use Rattle.page_reader.proofs.Reading.{not_one_page, wrong_checksum, right_page}
use Rattle.page_reader.proofs.read_page.Goals as goal

pub returns-then-not-is_one_page : goal.returns-then-not-is_one_page
returns-then-not-is_one_page c =
    let call = c.is_one_page in
    let a = c.args in
    sym (not_one_page page_crc a.page.now (failed call.ensures c.if-not-is_one_page.true))

pub returns-then-page_checksum-number32 : goal.returns-then-page_checksum-number32
returns-then-page_checksum-number32 c =
    let call = c.is_one_page in
    let a = c.args in
    sym
    (wrong_checksum page_crc a.page.now (held call.ensures c.if-not-is_one_page.false)
    (differs c.page_checksum.ensures c.number32.ensures c.if-page_checksum-number32.true))

pub returns : goal.returns
returns c =
    let call = c.is_one_page in
    let a = c.args in
    ap gives c.header_of.ensures
    ∙ sym
    (right_page page_crc a.page.now (held call.ensures c.if-not-is_one_page.false)
    (agrees c.page_checksum.ensures c.number32.ensures c.if-page_checksum-number32.false))
