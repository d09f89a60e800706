-- `salvage_page::first_cut` meets its contract. Assumes nothing.
use Rattle.std.proofs.Common.{rules}
use Rattle.page_layout.specs.Places.{count_at}
use Rattle.stream.specs.Page.{page_of}
use Rattle.salvage_page.proofs.Kept.{few-values}
use Rattle.salvage_page.proofs.first_cut.Goals as goal

pub lead_bytes-requires : goal.lead_bytes-requires
lead_bytes-requires c = rw c.lacing_of.ensures (few-values _ (c.shared_slice_known-1.given count_at).fits)

pub returns : goal.returns
unfolding page_of
returns c = rw c.lacing_of.ensures at c.lead_bytes.ensures
