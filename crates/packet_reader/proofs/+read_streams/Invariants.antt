-- `packet_reader::read_streams` ends: the number of streams falls. Assumes nothing.
use Rattle.packet_reader.proofs.+read_streams.Given as goal

abbrev pub decreases-read_streams : goal.decreases-read_streams
decreases-read_streams l = l.streams
