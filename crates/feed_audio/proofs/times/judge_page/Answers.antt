-- `feed_audio::times::judge_page` meets its contract: `Timing.antt` has its cases. Assumes nothing.
use Rattle.std.proofs.lemmas.Result.{err_from_is_err_and}
use Rattle.feed_audio.proofs.Timing.{unplaced, timed}
use Rattle.feed_audio.proofs.times.judge_page.Goals as goal

pub returns-in_err-place : goal.returns-in_err-place
returns-in_err-place c =
    let a = c.args in
    let p = err_from_is_err_and c.from_residual.result c.from_residual.ensures.1 in
    rw (p.1, p.2) (λ packed t m. unplaced a.core a.h m (rw c.is_last_page-last.ensures at c.judge.ensures) c.in_err-place.was)

pub returns : goal.returns
returns c packed t m =
    let a = c.args in
    timed a.core a.h m (rw c.is_last_page-last.ensures at c.judge.ensures) c.in_ok-place.was c.requires
