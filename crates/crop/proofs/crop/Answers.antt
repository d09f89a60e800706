-- `crop::crop` meets its contract. Assumes nothing.
use native.Mathlib.Omega.{arith}
use Rattle.std.specs.Prelude.{Err}
use mathlib.Core.Path.{sym, ap, ◌∙◌, ◌≡◌}
use borrow.Author.Rules.{rules}
use Rattle.page_crc.specs.Crc.{page_crc}
use Rattle.stream.specs.Readings.{readings}
use Rattle.recording.specs.Answers.{told_judged}
use Rattle.recording.proofs.Streams.{whole_is}
use Rattle.crop.proofs.Cropping.{crops_whole, crops_refused}
use Rattle.crop.proofs.crop.Goals as goal

pub crop_whole-requires : goal.crop_whole-requires
crop_whole-requires c =
    (whole_is (readings page_crc) _ _ _ (sym c.judge.ensures ∙ ap told_judged c.in_ok-judge.was)).0.accepted

pub returns : goal.returns
returns c =
    crops_whole _ _ _ _ _ _ _ (ap told_judged (sym c.in_ok-judge.was) ∙ c.judge.ensures) c.crop_whole.ensures

pub returns-in_err-judge : goal.returns-in_err-judge
returns-in_err-judge c =
    let at = c.in_err-judge.field-0.0 in
    let same : c.from_residual.result ≡ Err at.why = grind arith in
    rw same (crops_refused _ _ _ _ _ (ap told_judged (sym c.in_err-judge.was) ∙ c.judge.ensures))
