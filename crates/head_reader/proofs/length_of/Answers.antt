-- `head_reader::length_of` meets its contract. Assumes nothing.
use Rattle.head_reader.specs.Reading.{length_of}
use Rattle.head_reader.proofs.length_of.Goals as goal

pub returns : goal.returns
unfolding length_of
returns c =
    rw (
      ← c.byte_at-family.ensures,
      ← c.byte_at-streams.ensures,
      ← c.byte_at-coupled.ensures,
      ← c.byte_at-channels.ensures,
    ) c.head_length.ensures
