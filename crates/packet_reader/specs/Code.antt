-- What the private functions answer, in the code's words: a packet with the place that follows it, and whether the lengths
-- agree. Assumes nothing.
use Rattle.std.specs.Prelude.{Option, Some, None, Result, Ok, Err, ℕ, ◌*◌, ◌≤◌, ◌≡◌, Bool, eqb, length, drop}
use Rattle.octets.specs.Pick.{pick}
use Rattle.octets.specs.Octets.{Bytes}
use Rattle.refusal.specs.declared.Refusal.{Refusal}
use Rattle.refusal.specs.declared.Refusal.TheVariants.{IllegalPacket, MixedLengths}
use Rattle.packet_toc.specs.Toc.{frame_samples, is_stereo}
use Rattle.packet_frames.specs.Frames.{Read, short, value}
use Rattle.packet_frames.specs.Packet.{Parsed, breaks, frames}
use Rattle.packet_reader.specs.declared.Contents.{Contents}
use Rattle.packet_reader.specs.declared.OpusRead.{OpusRead}
use Rattle.packet_reader.specs.Streams.{contents_of, Measured, illegal, measured, all_are}

-- a packet by its first byte, the number of its frames, and whether they are empty
abbrev pub made_of : ℕ → ℕ → Bool → Contents
made_of toc m empty =
    record {
      measure = record { samples = m * frame_samples toc; frames = m };
      stereo = is_stereo toc;
      silent = empty;
    }

-- a packet of the bytes b by what it is made of
abbrev pub contents_in : Bytes → Parsed → Read Contents
contents_in b (breaks rule) = short
contents_in b (frames sizes s) = value (contents_of b sizes) s

abbrev pub told_opus : Bytes → Option OpusRead → Read Contents
told_opus s None = short
told_opus s (Some r) = value r.contents (drop r.next s)

abbrev pub EndsIn : Bytes → Option OpusRead → Type 0
EndsIn s None = Unit {0}
EndsIn s (Some r) = r.next ≤ length s

-- the answer r tells what was read of s, and the place after the packet is in s
pub record OpusIs (s : Bytes) (read : Read Contents) (r : Option OpusRead) : Type 0 where
  pub told : told_opus s r ≡ read
  pub inside : EndsIn s r

-- what the first packet is made of, or why the packets are refused
abbrev pub agreed : Measured → Result Contents Refusal
agreed illegal = Err IllegalPacket
agreed (measured c ds) = pick (all_are c.measure.samples ds) (Ok c) (Err MixedLengths)

-- a packet in front of others
abbrev pub joined : Contents → Result Contents Refusal → Result Contents Refusal
joined c (Err why) = Err why
joined c (Ok e) = pick (eqb e.measure.samples c.measure.samples) (Ok c) (Err MixedLengths)
