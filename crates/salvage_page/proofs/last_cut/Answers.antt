-- `salvage_page::last_cut` meets its contract. Assumes nothing.
use Rattle.std.proofs.Common.{rules}
use Rattle.page_layout.specs.Places.{count_at}
use Rattle.stream.specs.Page.{page_of}
use Rattle.salvage_page.proofs.Kept.{few-values}
use Rattle.salvage_page.proofs.last_cut.Goals as goal

pub trail_bytes-requires : goal.trail_bytes-requires
trail_bytes-requires c = rw c.lacing_of.ensures (few-values _ (c.shared_slice_known-1.given count_at).fits)

pub returns : goal.returns
unfolding page_of
returns c = rw c.lacing_of.ensures at c.trail_bytes.ensures
