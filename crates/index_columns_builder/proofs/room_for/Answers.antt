-- By the judgement: a whole stream has two pages more than records at least. Assumes nothing.
use native.Mathlib.Omega.{arith}
use Rattle.std.specs.Prelude.{Err}
use mathlib.Core.Path.{sym, ap, ◌∙◌, ◌≡◌}
use borrow.Author.Rules.{rules}
use Rattle.page_crc.specs.Crc.{page_crc}
use Rattle.stream.specs.Readings.{readings}
use Rattle.recording.specs.Answers.{told_judged}
use Rattle.index_builder.specs.Building.{build}
use Rattle.index_columns_builder.proofs.Fitting.{records-fit}
use Rattle.index_columns_builder.proofs.room_for.Goals as goal

pub fit-requires : goal.fit-requires
fit-requires c =
    records-fit (readings page_crc) _ _ _ (sym c.judge.ensures ∙ ap told_judged c.in_ok-whole.was)

pub returns : goal.returns
unfolding build
returns c =
    c.fit.ensures ∙ rw (← c.judge.ensures, c.in_ok-whole.was)

pub returns-in_err-whole : goal.returns-in_err-whole
unfolding build
returns-in_err-whole c =
    let at = c.in_err-whole.field-0.0 in
    let same : c.from_residual.result ≡ Err at.why = grind arith in
    let was = c.in_err-whole.was in
    rw (same, ← c.judge.ensures, was)
