-- `text_gain::lay_end` meets its contract. Assumes nothing.
use mathlib.Core.Path.{ap}
use native.Mathlib.Omega.{arith}
use mir.Facts.{to_z-of_z}
use Rattle.text_put.proofs.Putting.{laid-put, laid-known, length-laid}
use Rattle.text_gain.specs.Numbers.{decibels}
use Rattle.text_gain.proofs.Texts.{laid_end}
use Rattle.text_gain.proofs.lay_end.Goals as goal

pub lay_decibels-last-requires : goal.lay_decibels-last-requires
lay_decibels-last-requires c =
    let first = laid-put (omega (arith, c.requires)) c.put_bytes-second.ensures in
    omega (arith, c.requires, first.place, length-laid first)

pub returns : goal.returns
returns c =
    laid_end c.args.g c.ranges.g.sfits c.requires c.put_bytes-second.ensures
    (laid-known (ap decibels (to_z-of_z c.ranges.g)) c.lay_decibels-last.ensures) c.put_bytes.ensures
