-- `page_layout::header_of` meets its contract: field by field. Assumes nothing.
use Rattle.page_layout.specs.Page.{header_of}
use Rattle.page_layout.proofs.header_of.Goals as goal

pub returns : goal.returns
unfolding header_of
returns c =
    rw (c.byte_at.ensures, c.number64.ensures, c.number32.ensures, c.number32-2.ensures)
