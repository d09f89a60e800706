-- `salvage_list::collect_with` meets its contract. Assumes nothing.
use borrow.Author.Rules.{rules}
use Rattle.page_crc_tables.specs.Table.{entry_in}
use Rattle.page_crc.specs.Sliced.{page_sliced}
use Rattle.salvage_rules.specs.Good.{good_pages}
use Rattle.salvage_list.proofs.Collecting.{of_serial_lem, of_none}
use Rattle.salvage_list.proofs.collect_with.Goals as goal

pub returns-in-Some : goal.returns-in-Some
returns-in-Some c =
    let a = c.args in
    of_serial_lem (good_pages (page_sliced (entry_in a.tables.now)) a.buffer.now) c.serial_of.result c.serial_of.ensures c.in-Some.is
    c.collect_serial.ensures

pub returns-in-None : goal.returns-in-None
returns-in-None c =
    let a = c.args in
    of_none (good_pages (page_sliced (entry_in a.tables.now)) a.buffer.now) c.serial_of.result c.serial_of.ensures c.in-None.is
