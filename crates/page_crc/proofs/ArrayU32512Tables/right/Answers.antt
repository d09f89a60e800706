-- With right halves the entry of each byte is right. Assumes nothing.
use Rattle.page_crc_tables.proofs.Entries.{whole_by_halves}
use Rattle.page_crc.proofs.ArrayU32512Tables.right.Goals as goal

pub returns : goal.returns
returns c = whole_by_halves _ c.halves.ensures
