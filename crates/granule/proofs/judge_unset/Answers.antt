-- `granule::judge_unset` meets its contract. Assumes nothing.
use mathlib.Core.Path.{sym, ap, ◌∙◌}
use Rattle.refusal.specs.Told.{gives}
use Rattle.granule.proofs.Placing.{below-preskip, last_unset, small_unset, next_unset}
use Rattle.granule.proofs.judge_unset.Goals as goal

pub returns-then-g-preskip : goal.returns-then-g-preskip
returns-then-g-preskip c =
    let a = c.args in
    rw c.if-last.true (sym (below-preskip a.preskip a.g a.d c.if-g-preskip.true))

pub returns-then-last : goal.returns-then-last
returns-then-last c =
    let a = c.args in
    rw c.if-last.true (ap gives c.place_first.ensures ∙ sym (last_unset a.preskip a.g a.d c.if-g-preskip.false))

pub returns-then-g-d : goal.returns-then-g-d
returns-then-g-d c =
    let a = c.args in
    rw c.if-last.false (sym (small_unset a.preskip a.g a.d c.if-g-d.true))

pub returns : goal.returns
returns c =
    let a = c.args in
    rw c.if-last.false (ap gives c.place_first-2.ensures ∙ sym (next_unset a.preskip a.g a.d c.if-g-d.false))
