-- The packet meets the hypotheses. Assumes nothing.
use mathlib.Core.Path.{◌≡◌, refl, subst}
use mathlib.Core.Bool.{true}
use native.Mathlib.Omega.{arith}
use lib.Count.{count_leading_zeros}
use Rattle.octets.specs.Octets.{Octets, begins}
use Rattle.octets.specs.Numbers.{value, octets, number}
use Rattle.octets.proofs.Numbers.{octets-below}
use Rattle.refusal.specs.Checks.{first_of}
use Rattle.utf8.specs.Characters.{character_length, lead_bits, tails_follow, number_with, right_number, right_character, utf8_from, utf8}
use Rattle.tags_comment.specs.Names.{equals_place, all_within, right_comment, same_name, is_named}
use Rattle.tags_layout.specs.Layout.{fits_at, all_fit, texts_from, place_after, is_laid_out, tags_of}
use Rattle.tags_rules.specs.Right.{all_right, occurrences, right_comments}
use Rattle.tags_reader.specs.Right.{right_tags, is_tags}
use Rattle.tags_reader.specs.Reading.{read_tags}
use Rattle.tags_writer.specs.Instances.{packet, tags, MeetsWritesBack}

-- the bytes of the number that the packet is
bytes_are : octets 32 (value packet) ≡ packet
unfolding octets value
bytes_are = refl

texts_right : right_tags tags ≡ true
unfolding right_tags right_comments all_right right_comment occurrences is_named equals_place all_within same_name
    utf8 utf8_from right_character character_length lead_bits tails_follow number_with right_number count_leading_zeros
texts_right = refl

pub meets_writes_back : MeetsWritesBack
unfolding read_tags first_of is_tags is_laid_out begins fits_at all_fit texts_from place_after tags_of number value
meets_writes_back = record {
  octets = subst Octets bytes_are (octets-below 32 (value packet));
  reads = rw texts_right;
  small = omega arith;
  room = omega arith;
}
