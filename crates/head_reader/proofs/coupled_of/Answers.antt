-- `head_reader::coupled_of` meets its contract. Assumes nothing.
use mathlib.Core.Path.{sym, ap, ◌∙◌}
use Prim.Native.Nat.{ℕ, ◌-◌}
use Rattle.head_families.specs.Families.{has_counts}
use Rattle.head_reader.proofs.Places.{table-coupled, plain-coupled}
use Rattle.head_reader.proofs.coupled_of.Goals as goal

pub returns-then-has_counts : goal.returns-then-has_counts
returns-then-has_counts c =
    let b = c.args.b.now in
    let known = c.has_counts.ensures ∙ ap has_counts c.byte_at.ensures in
    c.byte_at-then-has_counts.ensures ∙ sym (table-coupled b (sym known ∙ c.if-has_counts.true))

pub returns-then-channels-eq0 : goal.returns-then-channels-eq0
returns-then-channels-eq0 c =
    let known = c.has_counts.ensures ∙ ap has_counts c.byte_at.ensures in
    sym
    (plain-coupled c.args.b.now (sym known ∙ c.if-has_counts.false)
    ∙ ap (λ (n : ℕ). n - 1) (sym c.byte_at-channels.ensures ∙ c.if-channels-eq0.true))

pub returns : goal.returns
returns c =
    let known = c.has_counts.ensures ∙ ap has_counts c.byte_at.ensures in
    ap (λ (n : ℕ). n - 1) c.byte_at-channels.ensures
    ∙ sym (plain-coupled c.args.b.now (sym known ∙ c.if-has_counts.false))
