-- `head_lines::put_gain` meets its contract: the end is made in a buffer of its own. Assumes nothing.
use mathlib.Core.Path.{ap}
use native.Mathlib.Omega.{arith}
use lib.ListN.{length-append}
use mir.Facts.{to_z-of_z}
use Rattle.text_put.proofs.Putting.{laid-known}
use Rattle.text_gain.specs.Numbers.{signed_decimal, decibels_end}
use Rattle.text_gain.proofs.Texts.{length_signed, length-end}
use Rattle.head_lines.specs.Lines.{gain_is, gain_end, gain_line}
use Rattle.head_lines.proofs.Parts.{put_ended}
use Rattle.head_lines.proofs.put_gain.Goals as goal

pub returns : goal.returns
unfolding gain_line
returns c =
    let end = laid-known (ap gain_end (to_z-of_z c.ranges.g)) c.lay_gain-n.ensures in
    put_ended gain_is end
    (omega (arith, length-append (signed_decimal c.args.g) (decibels_end c.args.g), length_signed c.args.g c.ranges.g.sfits, length-end c.args.g c.ranges.g.sfits))
    c.part_of.ensures c.put_both.ensures
