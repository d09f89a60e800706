-- `packet_reader::is_single` meets its contract. Assumes nothing.
use Rattle.packet_reader.specs.Streams.{is_single}
use Rattle.packet_reader.proofs.is_single.Goals as goal

pub returns : goal.returns
unfolding is_single
returns c = rw (← c.byte_at-toc.ensures)
