-- `tags_parts::gain` meets its contract. Assumes nothing.
use Rattle.std.specs.Prelude.{Err}
use mathlib.Core.Path.{◌≡◌, sym, ap, ◌∙◌}
use native.Mathlib.Omega.{arith}
use Rattle.refusal.specs.Numbers.{number_of}
use Rattle.tags_comment.specs.Gain.{comment_gain}
use Rattle.tags_reader.proofs.Finding.{gain-refused, gain-found}
use Rattle.tags_parts.proofs.gain.Goals as goal

pub returns-in_err-p : goal.returns-in_err-p
returns-in_err-p c =
    let a = c.args in
    let why = c.in_err-p.field-0.0 in
    let same : c.from_residual.result ≡ Err why = grind arith in
    rw same (sym (gain-refused a.b.now a.i (number_of why) (sym c.in_err-p.ensures)))

pub returns : goal.returns
returns c =
    let a = c.args in
    c.comment_gain.ensures
    ∙ ap comment_gain c.part_of.ensures
    ∙ sym (gain-found a.b.now a.i c.in_ok-p.p (sym c.in_ok-p.ensures))
