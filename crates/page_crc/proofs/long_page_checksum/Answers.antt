-- `page_crc::long_page_checksum` meets its contract: with right tables slicing gives the page's checksum. Assumes nothing.
use mathlib.Core.Path.{◌∙◌}
use Rattle.page_crc.proofs.Page.{page_sliced_right}
use Rattle.page_crc.proofs.long_page_checksum.Goals as goal

pub returns : goal.returns
returns c =
    c.page_checksum_with.ensures
    ∙ page_sliced_right _ c.right-tables.ensures c.args.page.now (record { below = λ i. (c.type_inv.page i).fits })
