-- An audio packet of N streams (RFC 7845, 3 and 5.1.1; RULES.md, 6, refusals 13, 15 and 16). The first N - 1 Opus packets
-- are self-delimited, each read from what the one before left, and the last one is not. Assumes nothing.
use Rattle.std.specs.Prelude.{ℕ, zero, suc, ◌+◌, ◌*◌, ◌-◌, Bool, true, false, not, ◌&&◌, ◌||◌, List, [], ◌∷◌, ltb, eqb, length, get_or}
use Rattle.octets.specs.Octets.{Bytes}
use Rattle.refusal.specs.declared.Refusal.TheVariants.{BadMapping, IllegalPacket, MixedLengths}
use Rattle.refusal.specs.Checks.{Check, ◌when◌, first_of}
use Rattle.refusal.specs.Told.{Told, decided}
use Rattle.packet_toc.specs.Toc.{code_of, frame_samples, is_stereo}
use Rattle.packet_frames.specs.Frames.{frame_max, is_silent}
use Rattle.packet_frames.specs.Packet.{Parsed, breaks, frames, parse}
use Rattle.packet_reader.specs.declared.Contents.{Contents}

-- a packet's length in samples
abbrev pub samples_of : Bytes → List ℕ → ℕ
samples_of b sizes = length sizes * frame_samples (get_or b 0 0)

-- what a packet with frames of these sizes is made of
abbrev pub contents_of : Bytes → List ℕ → Contents
contents_of b sizes =
    record {
      measure = record { samples = samples_of b sizes; frames = length sizes };
      stereo = is_stereo (get_or b 0 0);
      silent = is_silent sizes;
    }

-- some packets by what the first is made of, and their lengths in samples
pub data Measured : Type 0 where
  -- one of the packets is illegal
  illegal : Measured
  -- what the first is made of, and the lengths of the later ones
  measured : Contents → List ℕ → Measured

abbrev pub with_first : Contents → Measured → Measured
with_first c illegal = illegal
with_first c (measured e es) = measured c (e.measure.samples ∷ es)

-- the last packet
abbrev pub last_of : Bytes → Parsed → Measured
last_of b (breaks rule) = illegal
last_of b (frames sizes s) = measured (contents_of b sizes) []

-- a packet that others follow
abbrev pub first_and : (Bytes → Measured) → Bytes → Parsed → Measured
first_and later b (breaks rule) = illegal
first_and later b (frames sizes s) = with_first (contents_of b sizes) (later s)

-- the packets, the last one after n others
unfoldable pub measured_of : ℕ → Bytes → Measured
measured_of zero b = last_of b (parse false b)
measured_of (suc n) b = first_and (measured_of n) b (parse true b)

unfoldable pub all_are : ℕ → List ℕ → Bool
all_are d [] = true
all_are d (e ∷ es) = eqb e d && all_are d es

abbrev pub is_illegal : Measured → Bool
is_illegal illegal = true
is_illegal (measured c ds) = false

abbrev pub is_mixed : Measured → Bool
is_mixed illegal = false
is_mixed (measured c ds) = not (all_are c.measure.samples ds)

abbrev pub no_contents : Contents
no_contents = record { measure = record { samples = 0; frames = 0 }; stereo = false; silent = false }

abbrev pub first_contents : Measured → Contents
first_contents illegal = no_contents
first_contents (measured c ds) = c

abbrev pub packet_checks : Bytes → ℕ → List Check
packet_checks b streams =
    BadMapping when (eqb streams 0 || ltb 255 streams)
    ∷ IllegalPacket when is_illegal (measured_of (streams - 1) b)
    ∷ MixedLengths when is_mixed (measured_of (streams - 1) b)
    ∷ []

-- what the packet is made of, or a refusal
unfoldable pub read_packet : Bytes → ℕ → Told Contents
read_packet b streams = decided (first_of (packet_checks b streams)) (first_contents (measured_of (streams - 1) b))

-- a plain packet of code 0: a first byte, and one frame of at most `frame_max` bytes
unfoldable pub is_single : Bytes → Bool
is_single b = ltb 0 (length b) && (ltb (length b) (frame_max + 2) && eqb (code_of (get_or b 0 0)) 0)
