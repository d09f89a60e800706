-- `check_stream::check` meets its contract. Assumes nothing.
use native.Mathlib.Omega.{arith}
use Rattle.std.specs.Prelude.{Result, Ok, Err}
use mathlib.Core.Path.{◌≡◌, sym, ap, ◌∙◌}
use borrow.Author.Rules.{rules}
use Rattle.page_crc.specs.Crc.{page_crc}
use Rattle.stream.specs.Readings.{readings}
use Rattle.recording.specs.Pages.{pages_of}
use Rattle.recording.specs.declared.Whole.{Whole}
use Rattle.recording.specs.declared.RefusedAt.{RefusedAt}
use Rattle.recording.specs.Judging.{judge_buffer}
use Rattle.recording.specs.Answers.{told_judged}
use Rattle.recording.proofs.Streams.{whole_is}
use Rattle.check_stream.proofs.Finding.{told-whole, told-refused}
use Rattle.check_stream.proofs.check.Goals as goal

pub check_whole-requires : goal.check_whole-requires
check_whole-requires c =
    (whole_is (readings page_crc) (pages_of c.args.stream.now) _ _ (sym c.judge.ensures ∙ ap told_judged c.in_ok-judge.was)).0.accepted

pub returns : goal.returns
returns c =
    let a = c.args in
    told-whole a.stream.now a.kinds.now a.pages.now _ _ _ _ _ (sym c.judge.ensures ∙ ap told_judged c.in_ok-judge.was) c.check_whole.ensures

pub returns-in_err-judge : goal.returns-in_err-judge
returns-in_err-judge c =
    let a = c.args in
    let at = c.in_err-judge.field-0.0 in
    let same : c.from_residual.result ≡ Err at.why = grind arith in
    rw same (told-refused a.stream.now a.kinds.now a.pages.now _ _ (sym c.judge.ensures ∙ ap told_judged c.in_err-judge.was))
