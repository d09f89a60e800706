-- `salvage::is_short` meets its contract. Assumes nothing.
use Rattle.std.proofs.Common.{◌≡◌, ◌^◌, ◌<◌, ltb, length, sym, ap, ◌∙◌, arith, rules}
use Rattle.salvage.proofs.Steps.{lines-over}
use Rattle.salvage.proofs.Putting.{walked-bytes, walked_lines, surely_fits, bytes-short, lines_decide}
use Rattle.salvage.proofs.is_short.Goals as goal

pub returns-then-room-n : goal.returns-then-room-n
returns-then-room-n c =
    let a = c.args in
    sym (surely_fits a.buffer.now a.list.now a.out a.room c.requires (omega (arith, c.if-out-n.true)) (omega (arith, c.if-room-n.true)))

pub returns-then-out-walk : goal.returns-then-out-walk
returns-then-out-walk c =
    let a = c.args in
    sym (bytes-short a.buffer.now a.list.now a.out a.room (omega (arith, c.if-out-walk.true, walked-bytes c.walk_all-walk.ensures)))

pub lines_in-requires : goal.lines_in-requires
lines_in-requires c =
    lines-over c.args.buffer.now c.args.list.now (omega arith) c.requires c.walk_all-walk.ensures.walks

pub returns : goal.returns
returns c =
    let a = c.args in
    ap (ltb a.room) (c.lines_in.ensures ∙ walked_lines c.walk_all-walk.ensures)
    ∙ sym (lines_decide a.buffer.now a.list.now a.out a.room (omega (arith, c.if-out-walk.false, walked-bytes c.walk_all-walk.ensures)))
