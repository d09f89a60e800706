-- `page_writer::start_of` meets its contract: byte by byte. Assumes nothing.
use Rattle.octets.specs.Numbers.{octets}
use Rattle.page_writer.specs.Writing.{start_of}
use Rattle.page_writer.proofs.start_of.Goals as goal

pub returns : goal.returns
unfolding octets start_of
returns c = rw (c.octets64-g.ensures, c.octets64-s.ensures, c.octets64-q.ensures)
