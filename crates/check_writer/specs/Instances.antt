-- A header, a vendor and a packet that meet the hypotheses of `WrittenClean`. Assumes nothing.
use Rattle.std.specs.Prelude.{[], ◌∷◌, pos, replicate}
use Rattle.octets.specs.Octets.{Bytes}
use Rattle.head_fields.specs.declared.Head.{Head}
use Rattle.check_writer.specs.Written.{Given}

-- one channel, pre-skip 312
abbrev pub head : Head
head = record {
  version = 1;
  channels = 1;
  preskip = 312;
  rate = 48000;
  gain = pos 0;
  family = 0;
  streams = 1;
  coupled = 0;
  mapping = replicate 255 0;
}

-- 20 ms in one frame, of no bytes
abbrev pub packet : Bytes
packet = 0x08 ∷ []

-- no vendor
abbrev pub MeetsWritten : Type 0
MeetsWritten = Given 7 head [] [] packet
