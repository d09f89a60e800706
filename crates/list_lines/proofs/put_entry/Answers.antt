-- `list_lines::put_entry` meets its contract: four numbers, each with a byte after it. Assumes nothing.
use mathlib.Core.Path.{sym, ◌∙◌}
use Prim.Native.Nat.{◌+◌, ◌≤◌}
use native.Mathlib.Omega.{arith}
use borrow.Author.Tests.{ltb-false}
use lib.ListN.{length}
use Rattle.text_put.proofs.Laying.{put-none}
use Rattle.text_put.proofs.Putting.{put-laid}
use Rattle.list_lines.specs.Lines.{entry_line}
use Rattle.list_lines.proofs.Lines.{laid-entry}
use Rattle.list_lines.proofs.put_entry.Goals as goal

pub lacks_entry-requires : goal.lacks_entry-requires
lacks_entry-requires c = tt

pub returns-then-lacks_entry : goal.returns-then-lacks_entry
returns-then-lacks_entry c = put-none (sym c.lacks_entry.ensures ∙ c.if-lacks_entry.true)

pub put_ended-second-requires : goal.put_ended-second-requires
put_ended-second-requires c = tt

pub put_ended-third-requires : goal.put_ended-third-requires
put_ended-third-requires c = tt

pub put_ended-fourth-requires : goal.put_ended-fourth-requires
put_ended-fourth-requires c = tt

pub put_ended-requires : goal.put_ended-requires
put_ended-requires c = tt

pub shape_of-out : goal.shape_of-out
shape_of-out c = omega arith

pub returns : goal.returns
returns c =
    -- the line fits
    let fits : let a = c.args in a.at + length (entry_line a.end a.samples a.frames a.kept) ≤ length a.out.now = ltb-false _ _ (sym c.lacks_entry.ensures ∙ c.if-lacks_entry.false) in
    let a = c.args in
    put-laid fits
    (laid-entry a.end a.samples a.frames a.kept
    c.put_ended-second.ensures c.put_ended-third.ensures c.put_ended-fourth.ensures c.put_ended.ensures fits)
