-- `head_lines::put_number` meets its contract: the end is made in a buffer of its own. Assumes nothing.
use mathlib.Core.List.{◌++◌}
use native.Mathlib.Omega.{arith}
use Rattle.text_put.specs.Marks.{line_feed}
use Rattle.text_put.proofs.Putting.{laid-put}
use Rattle.text_decimal.specs.Decimal.{decimal}
use Rattle.text_decimal.proofs.Decimal.{length-ended, length-u64}
use Rattle.head_lines.specs.Lines.{number_line}
use Rattle.head_lines.proofs.Parts.{put_ended}
use Rattle.head_lines.proofs.put_number.Goals as goal

pub returns : goal.returns
unfolding number_line
returns c =
    let s = c.before.before.before.before.before.before.before.before.before.before.before.before in
    let size = length-ended s.args.x 10 in
    let most = length-u64 s.args.x s.ranges.x.fits in
    let end = laid-put {s = decimal s.args.x ++ line_feed} (omega arith) c.put_ended-n.ensures in
    put_ended s.args.name.now end (omega arith) c.part_of.ensures c.put_both.ensures
