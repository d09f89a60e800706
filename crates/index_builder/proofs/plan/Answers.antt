-- `index_builder::plan` meets its contract. Assumes nothing.
use native.Mathlib.Omega.{arith}
use Rattle.std.specs.Prelude.{Err}
use mathlib.Core.Path.{◌∙◌, ◌≡◌}
use borrow.Author.Rules.{rules}
use Rattle.index_builder.specs.Building.{build}
use Rattle.index_builder.proofs.plan.Goals as goal

pub returns : goal.returns
unfolding build
returns c =
    c.fit.ensures ∙ rw (← c.judge.ensures, c.in_ok-judge.was)

pub returns-in_err-judge : goal.returns-in_err-judge
unfolding build
returns-in_err-judge c =
    let at = c.in_err-judge.field-0.0 in
    let same : c.from_residual.result ≡ Err at.why = grind arith in
    let was = c.in_err-judge.was in
    rw (same, ← c.judge.ensures, was)
