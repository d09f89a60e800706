-- Reading a page by lent tables is reading it, where the tables are right. Assumes nothing.
use Rattle.page_crc_tables.specs.Table.{entry_in}
use Rattle.page_crc.proofs.Page.{page_sliced_right}
use Rattle.page_reader.specs.Reading.{read_page}
use Rattle.page_reader.specs.Statements.{LentReads}

pub lent_reads : LentReads
unfolding read_page
lent_reads t right p o = rw (page_sliced_right (entry_in t) right p o)
