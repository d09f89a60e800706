-- `feed_fields::check_fields` meets its contract. Assumes nothing.
use mathlib.Core.Path.{sym, ◌∙◌}
use Rattle.std.proofs.lemmas.Result.{err_from_is_err_and}
use Rattle.stream.specs.Page.{continued}
use Rattle.feed_fields.proofs.Fields.{then, pending-view}
use Rattle.feed_fields.proofs.check_fields.Goals as goal

pub returns-in_err-refuse_if : goal.returns-in_err-refuse_if
returns-in_err-refuse_if c =
    let p = err_from_is_err_and c.from_residual.result c.from_residual.ensures.1 in
    rw (p.1, p.2) (λ carry lacing body. sym (then _ _ _ c.in_err-refuse_if.ensures))

pub returns-in_err-refuse_if-2 : goal.returns-in_err-refuse_if-2
returns-in_err-refuse_if-2 c =
    let p = err_from_is_err_and c.from_residual-in_err-refuse_if-2.result c.from_residual-in_err-refuse_if-2.ensures.1 in
    rw (p.1, p.2) (λ carry lacing body. sym (then _ _ _ c.in_ok-refuse_if.ensures ∙ then _ _ _ c.in_err-refuse_if-2.ensures))

pub returns-in_err-refuse_if-3 : goal.returns-in_err-refuse_if-3
returns-in_err-refuse_if-3 c =
    let p = err_from_is_err_and c.from_residual-in_err-refuse_if-3.result c.from_residual-in_err-refuse_if-3.ensures.1 in
    rw (p.1, p.2, ← c.wrong_flags.ensures)
    (λ carry lacing body. sym (then _ _ _ c.in_ok-refuse_if.ensures ∙ then _ _ _ c.in_ok-refuse_if-2.ensures ∙ then _ _ _ c.in_err-refuse_if-3.ensures))

pub returns : goal.returns
unfolding continued
returns c =
    λ carry lacing body.
    let a = c.args in
    rw (← pending-view a.core.pending carry, ← c.is_continued.ensures, ← c.is_pending.ensures, ← c.wrong_flags.ensures)
    (c.refuse_if-4.ensures
    ∙ sym (then _ _ _ c.in_ok-refuse_if.ensures ∙ then _ _ _ c.in_ok-refuse_if-2.ensures ∙ then _ _ _ c.in_ok-refuse_if-3.ensures))
