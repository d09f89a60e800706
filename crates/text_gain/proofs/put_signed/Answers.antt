-- `text_gain::put_signed` meets its contract: made in a buffer of its own, and put whole. Assumes nothing.
use mathlib.Core.Path.{ap}
use native.Mathlib.Omega.{arith}
use lib.ListN.{length}
use mir.Facts.{to_z-of_z}
use Rattle.text_put.proofs.Putting.{put_made, put-known}
use Rattle.text_gain.specs.Numbers.{signed_decimal}
use Rattle.text_gain.proofs.Texts.{length_signed}
use Rattle.text_gain.proofs.put_signed.Goals as goal

pub returns : goal.returns
returns c =
    let same = ap signed_decimal (to_z-of_z c.ranges.g) in
    let short = length_signed c.args.g c.ranges.g.sfits in
    put-known same
    (put_made c.lay_signed-n.ensures (omega (arith, ap length same)) c.part_of.ensures c.put_bytes.ensures)
