-- `head_reader::streams_of` meets its contract. Assumes nothing.
use mathlib.Core.Path.{sym, ap, ◌∙◌}
use Rattle.head_families.specs.Families.{has_counts}
use Rattle.head_reader.proofs.Places.{table-streams, plain-streams}
use Rattle.head_reader.proofs.streams_of.Goals as goal

pub returns-then-has_counts : goal.returns-then-has_counts
returns-then-has_counts c =
    let b = c.args.b.now in
    let known = c.has_counts.ensures ∙ ap has_counts c.byte_at.ensures in
    c.byte_at-then-has_counts.ensures ∙ sym (table-streams b (sym known ∙ c.if-has_counts.true))

pub returns : goal.returns
returns c =
    let known = c.has_counts.ensures ∙ ap has_counts c.byte_at.ensures in
    sym (plain-streams c.args.b.now (sym known ∙ c.if-has_counts.false))
