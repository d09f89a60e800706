-- `crop_start::find_start` meets its contract. Assumes nothing.
use native.Mathlib.Omega.{arith}
use Rattle.std.specs.Prelude.{Result, Ok, Err, ok_or}
use mathlib.Core.Path.{◌≡◌, sym, ap, ◌∙◌}
use Rattle.std.proofs.Common.{rules}
use Rattle.page_crc.specs.Crc.{page_crc}
use Rattle.stream.specs.Readings.{readings}
use Rattle.recording.specs.Pages.{pages_of}
use Rattle.recording.specs.declared.Whole.{Whole}
use Rattle.recording.specs.declared.RefusedAt.{RefusedAt}
use Rattle.recording.specs.Judging.{judge_buffer}
use Rattle.recording.specs.Answers.{told_judged}
use Rattle.recording.proofs.Streams.{whole_is}
use Rattle.refusal.specs.declared.Refusal.TheVariants.{NoCropStart}
use Rattle.crop_start.specs.Code.{told_start}
use Rattle.crop_start.proofs.Finding.{start_told, found-whole, found-refused}
use Rattle.crop_start.proofs.find_start.Goals as goal

pub find_whole-requires : goal.find_whole-requires
find_whole-requires c =
    (whole_is (readings page_crc) (pages_of c.args.stream.now) _ _ (sym c.judge.ensures ∙ ap told_judged c.in_ok-judge.was)).0.accepted

pub returns : goal.returns
returns c =
    let a = c.args in
    let same : c.ok_or.result ≡ ok_or c.find_whole.result NoCropStart = search rules in
    ap told_start same
    ∙ start_told c.find_whole.result
    ∙ found-whole a.stream.now a.last a.position _ _ c.find_whole.result (sym c.judge.ensures ∙ ap told_judged c.in_ok-judge.was) c.find_whole.ensures

pub returns-in_err-judge : goal.returns-in_err-judge
returns-in_err-judge c =
    let a = c.args in
    let at = c.in_err-judge.field-0.0 in
    let same : c.from_residual.result ≡ Err at.why = grind arith in
    rw same (found-refused a.stream.now a.last a.position _ _ (sym c.judge.ensures ∙ ap told_judged c.in_err-judge.was))
