-- The fields of an identification header by their places (RFC 7845, 5.1; RFC 8486, 3; RULES.md, 4). A place past the end of the
-- bytes reads as zero. Assumes nothing.
use Rattle.std.specs.Prelude.{ℕ, ◌-◌, ◌++◌, length, get_or, take, drop, replicate}
use Rattle.std.specs.Int.{w16}
use Rattle.std.proofs.Common.{to_z}
use Rattle.octets.specs.Pick.{pick}
use Rattle.octets.specs.Octets.{Bytes}
use Rattle.octets.specs.Numbers.{number}
use Rattle.head_fields.specs.declared.Head.{Head}
use Rattle.head_families.specs.Families.{has_counts, index_count}
use Rattle.head_fields.specs.Right.{plain_indices}
use Rattle.head_fields.specs.Layout.{version_place, channels_place, preskip_place, rate_place, gain_place, family_place}
use Rattle.head_fields.specs.Layout.{streams_place, coupled_place, indices_place, matrix_place, matrix_size}

unfoldable pub streams_of : Bytes → ℕ
streams_of b = pick (has_counts (get_or b family_place 0)) (get_or b streams_place 0) 1

unfoldable pub coupled_of : Bytes → ℕ
coupled_of b = pick (has_counts (get_or b family_place 0)) (get_or b coupled_place 0) (get_or b channels_place 0 - 1)

unfoldable pub indices_of : Bytes → Bytes
indices_of b =
    take (index_count (get_or b family_place 0) (get_or b channels_place 0))
    (pick (has_counts (get_or b family_place 0)) (drop indices_place b) plain_indices)

-- the 255 places of the mapping, unused ones zero
unfoldable pub places : Bytes → Bytes
places s = s ++ replicate (255 - length s) 0

-- the gain is signed, in two's complement of 16 bits
unfoldable pub head_of : Bytes → Head
head_of b = record {
  version = get_or b version_place 0;
  channels = get_or b channels_place 0;
  preskip = number 2 b preskip_place;
  rate = number 4 b rate_place;
  gain = to_z w16 (number 2 b gain_place);
  family = get_or b family_place 0;
  streams = streams_of b;
  coupled = coupled_of b;
  mapping = places (indices_of b);
}

-- the bytes of the matrix, none where the family has no matrix
unfoldable pub matrix_of : Bytes → Bytes
matrix_of b = take (matrix_size (head_of b)) (drop matrix_place b)
