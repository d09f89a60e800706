-- `head_reader::mapping_of` meets its contract: a copy of the table's indices, or the two of family 0. Assumes nothing.
use mathlib.Core.Path.{◌≡◌, sym, ap, ap₂, ◌∙◌}
use lib.ListN.{get_or, replicate}
use Rattle.octets.specs.Octets.{Bytes, copied}
use Rattle.head_families.specs.Families.{has_counts, index_count}
use Rattle.head_fields.specs.Layout.{channels_place, family_place}
use Rattle.head_reader.proofs.Places.{from-table, from-two, from_one}
use Rattle.head_reader.proofs.mapping_of.Goals as goal
use Rattle.head_reader.proofs.mapping_of.Lts as lts
use Rattle.head_reader.proofs.mapping_of.Tie as tie

abbrev After-has_counts : Type 0
After-has_counts = lts.After-has_counts tie.the-claims tie.handed_pre tie.handed_post

-- what the calls before the first test gave, of the bytes b
module _ (c : After-has_counts) where
  abbrev bytes : Bytes
  bytes = c.args.b.now

  used : c.index_count-used.result ≡ index_count (get_or bytes family_place 0) (get_or bytes channels_place 0)
  used =
      c.index_count-used.ensures.same ∙ ap₂ index_count c.byte_at-family.ensures c.byte_at-channels.ensures

  counts : c.has_counts.result ≡ has_counts (get_or bytes family_place 0)
  counts = c.has_counts.ensures ∙ ap has_counts c.byte_at-family.ensures

pub returns-then-has_counts : goal.returns-then-has_counts
returns-then-has_counts c =
    let call = c.before.before in
    c.copy_at.ensures
    ∙ ap (copied (replicate 255 0) 0) c.part_of.ensures
    ∙ from-table (bytes call.before.before.before.before) call.index_count-used.result call.index_count-used.ensures.most (used call.before.before.before.before)
    (sym (counts call.before.before.before.before) ∙ c.if-has_counts.true)

pub returns-then-used-gt1 : goal.returns-then-used-gt1
returns-then-used-gt1 c =
    let call = c.before.before.before in
    from-two (bytes call) call.index_count-used.result c.if-used-gt1.true (used call) (sym (counts call) ∙ c.if-has_counts.false)

pub returns-else-used-gt1 : goal.returns-else-used-gt1
returns-else-used-gt1 c =
    let call = c.before.before.before in
    from_one (bytes call) call.index_count-used.result c.if-used-gt1.false (used call) (sym (counts call) ∙ c.if-has_counts.false)
