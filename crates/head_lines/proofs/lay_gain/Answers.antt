-- `head_lines::lay_gain` meets its contract. Assumes nothing.
use mathlib.Core.Path.{ap}
use native.Mathlib.Omega.{arith}
use mir.Facts.{to_z-of_z}
use Rattle.text_put.specs.Writing.{Laid}
use Rattle.text_put.proofs.Putting.{put-known, laid-put, laid_then}
use Rattle.text_gain.specs.Numbers.{signed_decimal, decibels_end}
use Rattle.text_gain.proofs.Texts.{length_signed, length-end}
use Rattle.head_lines.proofs.lay_gain.Goals as goal

pub returns : goal.returns
returns c =
    -- the number is laid
    let signed : let a = c.args in Laid a.out.now 0 (signed_decimal a.g) c.put_signed-next.result c.put_signed-next.new.out = let most = length_signed c.args.g c.ranges.g.sfits in
    laid-put (omega (arith, c.requires)) (put-known (ap signed_decimal (to_z-of_z c.ranges.g)) c.put_signed-next.ensures) in
    laid_then signed
    (omega (arith, c.requires, signed.place, length_signed c.args.g c.ranges.g.sfits, length-end c.args.g c.ranges.g.sfits))
    (put-known (ap decibels_end (to_z-of_z c.ranges.g)) c.put_decibels.ensures)
