-- A header of version 2 and an output that meet the hypotheses of `ExtraIgnored` of `head_reader` and of `WritesAnyVersion`, and
-- one of family 3 and version 1 that meets those of `WritesBack`. Assumes nothing.
use Rattle.std.specs.Prelude.{◌≤◌, ◌≡◌, true, [], ◌∷◌, ◌++◌, pos, length, get_or, replicate}
use Rattle.octets.specs.Octets.{Bytes, Octets}
use Rattle.refusal.specs.Told.{gives}
use Rattle.head_fields.specs.declared.Head.{Head}
use Rattle.head_fields.specs.Right.{may_extend}
use Rattle.head_fields.specs.Layout.{version_place, head_size}
use Rattle.head_reader.specs.Reading.{length_of, read_head, read_matrix}

-- family 0, two channels, a pre-skip of 312, 48 kHz
abbrev pub fields : Bytes
fields =
    0x4f ∷ 0x70 ∷ 0x75 ∷ 0x73 ∷ 0x48 ∷ 0x65 ∷ 0x61 ∷ 0x64 ∷ 2 ∷ 2 ∷ 0x38 ∷ 1 ∷ 0x80 ∷ 0xbb ∷ 0 ∷ 0 ∷ 0 ∷ 0 ∷ 0 ∷ []

-- a byte more than the fields take
abbrev pub header : Bytes
header = fields ++ 9 ∷ []

abbrev pub head : Head
head = record {
  version = 2;
  channels = 2;
  preskip = 312;
  rate = 48000;
  gain = pos 0;
  family = 0;
  streams = 1;
  coupled = 1;
  mapping = 0 ∷ 1 ∷ replicate 253 0;
}

abbrev pub output : Bytes
output = replicate 19 0

pub record MeetsExtra : Type 0 where
  pub extends : may_extend (get_or fields version_place 0) ≡ true
  pub size : length fields ≡ length_of fields

pub record MeetsAnyVersion : Type 0 where
  pub octets : Octets header
  pub reads : read_head header ≡ gives head
  pub room : head_size head ≤ length output

-- ---- with a matrix

-- one entry, 32,767
abbrev pub matrix : Bytes
matrix = 0xff ∷ 0x7f ∷ []

-- family 3, one channel, one stream
abbrev pub ambisonic : Bytes
ambisonic =
    0x4f ∷ 0x70 ∷ 0x75 ∷ 0x73 ∷ 0x48 ∷ 0x65 ∷ 0x61 ∷ 0x64 ∷ 1 ∷ 1 ∷ 0x38 ∷ 1 ∷ 0x80 ∷ 0xbb ∷ 0 ∷ 0 ∷ 0 ∷ 0 ∷ 3 ∷ 1 ∷ 0 ∷ matrix

abbrev pub ambisonic_head : Head
ambisonic_head = record {
  version = 1;
  channels = 1;
  preskip = 312;
  rate = 48000;
  gain = pos 0;
  family = 3;
  streams = 1;
  coupled = 0;
  mapping = replicate 255 0;
}

pub record MeetsMatrix : Type 0 where
  pub octets : Octets ambisonic
  pub reads : read_head ambisonic ≡ gives ambisonic_head
  pub matrix : read_matrix ambisonic ≡ gives matrix
