-- The sixteen cases, computed. Assumes nothing.
use mathlib.Core.Path.{refl}
use Rattle.octets.specs.Octets.{total}
use Rattle.stream.specs.Packets.{samples_of}
use Rattle.refusal.specs.Checks.{first_of}
use Rattle.packet_toc.specs.Toc.{config_samples, frame_samples}
use Rattle.packet_frames.specs.Frames.{coded, coded_times, padding_from}
use Rattle.packet_frames.specs.Packet.{counted_shape, shape_of, parse}
use Rattle.packet_reader.specs.Streams.{measured_of, all_are, read_packet}
use Rattle.granule.specs.Samples.{tally}
use Rattle.granule.specs.Judging.{from}
use Rattle.stream.specs.Stream.{last_from, count_from}
use Rattle.demands.specs.Cases.{refused_from, counts_of, CasesHold}

pub cases_hold : CasesHold
unfolding samples_of total first_of config_samples frame_samples coded coded_times padding_from counted_shape shape_of parse measured_of all_are read_packet tally from last_from count_from refused_from counts_of
cases_hold = refl
