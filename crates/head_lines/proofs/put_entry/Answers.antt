-- `head_lines::put_entry` meets its contract: the number is made in a buffer of its own. Assumes nothing.
use mathlib.Core.Path.{ap}
use native.Mathlib.Omega.{arith}
use mir.Facts.{to_z-of_z}
use Rattle.text_put.specs.Marks.{space}
use Rattle.text_put.proofs.Putting.{put-known, laid-put}
use Rattle.text_gain.specs.Numbers.{signed_decimal}
use Rattle.text_gain.proofs.Texts.{length_signed}
use Rattle.head_lines.specs.Lines.{entry_text}
use Rattle.head_lines.proofs.Parts.{put_ended}
use Rattle.head_lines.proofs.put_entry.Goals as goal

pub returns : goal.returns
unfolding entry_text
returns c =
    let s = c.before.before.before.before.before.before.before.before.before.before.before.before in
    let most = length_signed s.args.x s.ranges.x.sfits in
    let known = put-known (ap signed_decimal (to_z-of_z s.ranges.x)) c.put_signed-n.ensures in
    put_ended {s = signed_decimal s.args.x} space (laid-put (omega arith) known) (omega arith) c.part_of.ensures c.put_both.ensures
