-- `text_gain::put_decibels` meets its contract: made in a buffer of its own, and put whole. Assumes nothing.
use mathlib.Core.Path.{ap}
use mir.Facts.{to_z-of_z}
use Rattle.text_put.proofs.Putting.{put_made, put-known}
use Rattle.text_gain.specs.Numbers.{decibels_end}
use Rattle.text_gain.proofs.Texts.{length-end}
use Rattle.text_gain.proofs.put_decibels.Goals as goal

pub returns : goal.returns
returns c =
    let same = ap decibels_end (to_z-of_z c.ranges.g) in
    put-known same
    (put_made c.lay_end-n.ensures (rw (← same) at (length-end c.args.g c.ranges.g.sfits)) c.part_of.ensures c.put_bytes.ensures)
