-- `granule::judge_joined` meets its contract. Assumes nothing.
use mathlib.Core.Path.{sym, ap, ◌∙◌}
use Rattle.refusal.specs.Told.{gives}
use Rattle.granule.proofs.Placing.{no_position, small-joined, next-joined}
use Rattle.granule.proofs.judge_joined.Goals as goal

pub returns-then-last : goal.returns-then-last
returns-then-last c =
    let a = c.args in
    rw c.if-last.true (sym (no_position a.preskip a.g a.d))

pub returns-then-g-d : goal.returns-then-g-d
returns-then-g-d c =
    let a = c.args in
    rw c.if-last.false (sym (small-joined a.preskip a.g a.d c.if-g-d.true))

pub returns : goal.returns
returns c =
    let a = c.args in
    rw c.if-last.false (ap gives c.place_first.ensures ∙ sym (next-joined a.preskip a.g a.d c.if-g-d.false))
