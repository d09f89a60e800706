-- `feed_audio::times::time_page` meets its contract: `Timing.antt` has its cases. Assumes nothing.
use Rattle.std.proofs.lemmas.Result.{err_from_is_err_and}
use Rattle.feed_audio.proofs.Timing.{unmeasured}
use Rattle.feed_audio.proofs.times.time_page.Goals as goal

pub returns-in_err-all : goal.returns-in_err-all
returns-in_err-all c =
    let p = err_from_is_err_and c.from_residual.result c.from_residual.ensures.1 in
    rw (p.1, p.2) (unmeasured c.args.core c.args.h (rw c.stream_count-streams.ensures at c.in_err-all.ensures))

pub returns : goal.returns
returns c = c.judge_page.ensures _ _ (rw c.stream_count-streams.ensures at c.in_ok-all.ensures)
