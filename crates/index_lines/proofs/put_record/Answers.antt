-- `index_lines::put_record` meets its contract: three numbers, each with a byte after it. Assumes nothing.
use Prim.Native.Nat.{◌+◌, ◌≤◌}
use mathlib.Core.Path.{sym, ◌∙◌}
use lib.ListN.{length}
use Rattle.octets.proofs.Tests.{not-below}
use Rattle.text_put.proofs.Laying.{put-none}
use Rattle.text_put.proofs.Putting.{put-laid}
use Rattle.index_lines.specs.Lines.{record_line}
use Rattle.index_lines.proofs.Lines.{laid-record}
use Rattle.index_lines.proofs.put_record.Goals as goal

pub returns-then-lacks_record : goal.returns-then-lacks_record
returns-then-lacks_record c = put-none (sym c.lacks_record.ensures ∙ c.if-lacks_record.true)

pub returns : goal.returns
returns c =
    -- the line fits
    let fits : let a = c.args in a.at + length (record_line a.granule a.place a.sequence) ≤ length a.out.now = not-below c.lacks_record.ensures c.if-lacks_record.false in
    let a = c.args in
    put-laid fits
    (laid-record a.granule a.place a.sequence
    c.put_ended-second.ensures c.put_ended-third.ensures c.put_ended.ensures fits)
