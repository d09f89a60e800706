-- `feed_audio::lists::list_measured` meets its contract. Assumes nothing.
use Rattle.std.proofs.lemmas.Result.{err_from_is_err_and}
use mathlib.Core.Path.{refl}
use native.Mathlib.Omega.{arith}
use Rattle.feed_audio.proofs.lists.list_measured.Goals as goal

pub list_packets-left-requires : goal.list_packets-left-requires
list_packets-left-requires c =
    let room = c.requires.room in
    let m = c.in_ok-timed.ensures in
    let size = c.measures-2-1.given in
    record {
      measures = m.runs.few;
      ends = omega (arith, m.runs.few, size, room.ends);
      lengths = omega (arith, m.runs.few, size, room.lengths);
      kept = omega (arith, m.runs.few, size, room.kept);
      frames = omega (arith, m.runs.few, size, room.frames);
      fits = m.runs.fits;
    }

pub returns-in_err-timed : goal.returns-in_err-timed
returns-in_err-timed c =
    let p = err_from_is_err_and c.from_residual.result c.from_residual.ensures.1 in
    rw (p.1, p.2) (record { packed = _; times = c.in_err-timed.ensures; stays = refl })

pub returns : goal.returns
returns c = record {
  packed = _;
  times = c.in_ok-timed.ensures;
  lists = rw c.is_last_page-last.ensures at c.list_packets-left.ensures;
}
