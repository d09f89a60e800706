-- What is proved of packets, in addition to the contracts. Assumes nothing.
use Rattle.std.specs.Prelude.{ℕ, ◌%◌, ◌≤◌, ◌≡◌, Bool, List, length}
use Rattle.octets.specs.Octets.{Bytes}
use Rattle.refusal.specs.Told.{gives}
use Rattle.packet_frames.specs.Frames.{samples_max}
use Rattle.packet_frames.specs.Packet.{frames, parse}
use Rattle.packet_reader.specs.declared.Contents.{Contents}
use Rattle.packet_reader.specs.Streams.{samples_of, read_packet}

-- a length in samples that a packet can have
pub record PacketLength (d : ℕ) : Type 0 where
  pub least : 120 ≤ d
  pub most : d ≤ samples_max
  pub multiple : d % 120 ≡ 0

-- a legal packet has such a length, at least one frame and at most 48
pub record Legal (b : Bytes) (sizes : List ℕ) : Type 0 where
  pub some : 1 ≤ length sizes
  pub few : length sizes ≤ 48
  pub samples : PacketLength (samples_of b sizes)

abbrev pub LegalPackets : Type 0
LegalPackets = (self : Bool) (b : Bytes) (sizes : List ℕ) (s : Bytes) → parse self b ≡ frames sizes s → Legal b sizes

-- and so has every audio packet that is read; the frames are those of its first Opus packet
pub record LegalContents (c : Contents) : Type 0 where
  pub samples : PacketLength c.measure.samples
  pub some : 1 ≤ c.measure.frames
  pub few : c.measure.frames ≤ 48

abbrev pub LegalLengths : Type 0
LegalLengths = (b : Bytes) (streams : ℕ) (c : Contents) → read_packet b streams ≡ gives c → LegalContents c
