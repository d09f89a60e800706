-- `page_crc::head_checksum` meets its contract: its blocks are those of the definition. Assumes nothing.
use Rattle.page_crc.proofs.Page.{head-blocks}
use Rattle.page_crc.proofs.head_checksum.Goals as goal

pub returns : goal.returns
returns c =
    head-blocks _ c.args.page.now c.requires c.block-first.ensures c.block-second.ensures c.block-third.ensures
    c.block.ensures
