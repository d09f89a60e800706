-- A packet and an output that meet the hypotheses of `WritesBack`. Assumes nothing.
use Rattle.std.specs.Prelude.{◌≤◌, ◌≡◌, [], ◌∷◌, length, replicate}
use Rattle.octets.specs.Octets.{Bytes, Octets}
use Rattle.limits.specs.Limits.{packet_max}
use Rattle.refusal.specs.Told.{gives}
use Rattle.tags_layout.specs.Layout.{Tags}
use Rattle.tags_reader.specs.Reading.{read_tags}
use Rattle.tags_writer.specs.Statements.{size_before}

-- ---- WritesBack: the vendor "v", the comments "a=1" and "b=2", a trailing byte, and room for one byte more than is written

abbrev pub packet : Bytes
packet =
    0x4f ∷ 0x70 ∷ 0x75 ∷ 0x73 ∷ 0x54 ∷ 0x61 ∷ 0x67 ∷ 0x73 ∷ 1 ∷ 0 ∷ 0 ∷ 0 ∷ 0x76
    ∷ 2 ∷ 0 ∷ 0 ∷ 0 ∷ 3 ∷ 0 ∷ 0 ∷ 0 ∷ 0x61 ∷ 0x3d ∷ 0x31 ∷ 3 ∷ 0 ∷ 0 ∷ 0 ∷ 0x62 ∷ 0x3d ∷ 0x32 ∷ 9 ∷ []

abbrev pub tags : Tags
tags = record {
  vendor = 0x76 ∷ [];
  comments = (0x61 ∷ 0x3d ∷ 0x31 ∷ []) ∷ (0x62 ∷ 0x3d ∷ 0x32 ∷ []) ∷ [];
  trailing = 9 ∷ [];
}

abbrev pub output : Bytes
output = replicate 32 0

pub record MeetsWritesBack : Type 0 where
  pub octets : Octets packet
  pub reads : read_tags packet ≡ gives tags
  pub small : size_before packet tags ≤ packet_max
  pub room : size_before packet tags ≤ length output
