-- The header meets the hypotheses. Assumes nothing.
use mathlib.Core.Path.{◌≡◌, refl, subst}
use native.Mathlib.Omega.{arith}
use Rattle.octets.specs.Octets.{Octets, begins}
use Rattle.octets.specs.Numbers.{value, octets, number}
use Rattle.octets.proofs.Numbers.{octets-below}
use Rattle.refusal.specs.Checks.{first_of}
use Rattle.head_families.specs.Families.{ambisonic_below, allowed_channels, matrix_length}
use Rattle.head_fields.specs.Right.{right_length, right_streams, right_indices, right_mapping}
use Rattle.head_reader.specs.Fields.{streams_of, coupled_of, indices_of, places, head_of, matrix_of}
use Rattle.head_reader.specs.Reading.{length_of, is_head, read_head, read_matrix}
use Rattle.head_writer.specs.Instances.{header, MeetsExtra, MeetsAnyVersion, ambisonic, MeetsMatrix}

pub meets_extra : MeetsExtra
unfolding length_of
meets_extra = record { extends = refl; size = refl }

-- the bytes of the number that the header is
bytes_are : octets 20 (value header) ≡ header
unfolding octets value
bytes_are = refl

pub meets_any_version : MeetsAnyVersion
unfolding read_head first_of is_head length_of right_length begins head_of streams_of coupled_of indices_of places number value
    right_mapping allowed_channels right_streams right_indices
meets_any_version = record { octets = subst Octets bytes_are (octets-below 20 (value header)); reads = refl; room = omega arith }

ambisonic-bytes : octets 23 (value ambisonic) ≡ ambisonic
unfolding octets value
ambisonic-bytes = refl

pub meets_matrix : MeetsMatrix
unfolding read_head read_matrix first_of is_head length_of right_length begins head_of matrix_of streams_of coupled_of indices_of places number value
    right_mapping allowed_channels ambisonic_below matrix_length right_streams right_indices
meets_matrix = record {
  octets = subst Octets ambisonic-bytes (octets-below 23 (value ambisonic));
  reads = refl;
  matrix = refl;
}
