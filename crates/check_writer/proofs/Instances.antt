-- The header and the packet of the example meet the hypotheses. Assumes nothing.
use mathlib.Core.Path.{refl}
use native.Mathlib.Omega.{arith}
use Rattle.octets.specs.Octets.{begins, total}
use Rattle.utf8.specs.Characters.{utf8, utf8_from}
use Rattle.head_families.specs.Families.{allowed_channels, matrix_length}
use Rattle.head_fields.specs.Right.{writable_head, right_fields, right_mapping, right_streams, right_indices, right_plain, all_zero}
use Rattle.packet_toc.specs.Toc.{config_samples, frame_samples}
use Rattle.packet_frames.specs.Frames.{coded, coded_times, padding_from}
use Rattle.packet_frames.specs.Packet.{counted_shape, shape_of, parse}
use Rattle.packet_reader.specs.Streams.{measured_of, all_are}
use Rattle.stream.specs.Readings.{readings}
use Rattle.check_writer.specs.Instances.{MeetsWritten}

pub meets_written : MeetsWritten
unfolding readings writable_head right_fields right_mapping right_streams right_indices right_plain all_zero allowed_channels matrix_length begins
    utf8 utf8_from measured_of parse shape_of all_are frame_samples config_samples coded coded_times counted_shape padding_from total
meets_written = record {
  small = omega arith;
  wide = record { preskip = omega arith; rate = omega arith; gain = record { sfits = omega arith } };
  mapping = refl;
  head = refl;
  preskip = refl;
  text = refl;
  room = omega arith;
  legal = refl;
  alike = refl;
  samples = refl;
  size = omega arith;
}
