-- `salvage_page::link_of` meets its contract. Assumes nothing.
use Rattle.std.proofs.Common.{rules}
use Rattle.page_layout.specs.Page.{header_of}
use Rattle.stream.specs.Page.{page_of, continued}
use Rattle.salvage_rules.specs.Tidy.{goes_on, goes_through}
use Rattle.salvage_page.proofs.link_of.Goals as goal

pub returns : goal.returns
unfolding page_of header_of continued goes_on goes_through
returns c =
    rw (
      c.goes_through.ensures,
      c.goes_on.ensures,
      c.number32.ensures,
      c.is_continued-continued.ensures,
      c.byte_at.ensures,
      c.lacing_of-lacing.ensures,
    )
