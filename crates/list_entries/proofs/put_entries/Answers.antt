-- `list_entries::put_entries` meets its contract. The loop's invariant: i lines are put, and what is kept of the last one is
-- sound. Assumes nothing.
use mathlib.Core.Path.{◌≡◌, sym, ◌∙◌}
use mathlib.Core.Bool.{false}
use Prim.Native.Nat.{◌+◌, ◌-◌, ◌<◌, ◌≤◌}
use native.Mathlib.Omega.{arith}
use borrow.Author.Tests.{ltb-false}
use lib.Dec.{ltb}
use lib.ListN.{length, get_or}
use Rattle.list_lines.specs.Lines.{entry_line, longest}
use Rattle.list_lines.proofs.Lines.{entry-most}
use Rattle.list_entries.proofs.Following.{Says, says, again, same_line, ends-within}
use Rattle.list_entries.proofs.Lines.{done-starts, same_size, all_done, no_room, one_more}
use Rattle.list_entries.proofs.put_entries.Goals as goal

pub loop-i-init : goal.loop-i-init
loop-i-init c = (done-starts _ _ _ _ _ _, c.nothing-repeat.ensures)

pub shape_of-out-then-lacks_line : goal.shape_of-out-then-lacks_line
shape_of-out-then-lacks_line c = same_size c.loop-i.invariant.0

pub returns-then-lacks_line : goal.returns-then-lacks_line
returns-then-lacks_line c =
    -- where a turn begins
    let in_ends : c.loop-i.i < length c.args.ends.now = omega (arith, c.least-n.ensures, c.least.ensures, c.loop-i-test.true) in
    let in_lengths : c.loop-i.i < length c.args.lengths.now = omega (arith, c.least-n.ensures, c.least.ensures, c.loop-i-test.true) in
    let in_frames : c.loop-i.i < length c.args.frames.now = omega (arith, c.least-n.ensures, c.least-2.ensures, c.loop-i-test.true) in
    let in_kept : c.loop-i.i < length c.args.kept.now = omega (arith, c.least-n.ensures, c.least-2.ensures, c.loop-i-test.true) in
    no_room c.loop-i.invariant.0 in_ends in_lengths in_frames in_kept (sym c.lacks_line.ensures ∙ c.if-lacks_line.true)

pub put_again-place-requires : goal.put_again-place-requires
put_again-place-requires c =
    let told : let a = c.args in
    let at = c.loop-i in
    Says at.repeat (get_or a.ends.now at.i 0) (get_or a.lengths.now at.i 0) (get_or a.frames.now at.i 0)
    (get_or a.kept.now at.i 0) = says _ _ _ _ _ (sym c.is_again.ensures ∙ c.if-is_again.true) in
    -- where the packet's numbers are known, and there is room for its line
    let full : ltb (length c.loop-i.out - c.loop-i.place) longest ≡ false = sym c.lacks_line.ensures ∙ c.if-lacks_line.false in
    let room : c.loop-i.place + longest ≤ length c.loop-i.out = let left = ltb-false (length c.loop-i.out - c.loop-i.place) longest full in omega arith in
    again told room c.loop-i.invariant.1

pub loop-i-preserved-then-is_again : goal.loop-i-preserved-then-is_again
loop-i-preserved-then-is_again c =
    let told : let a = c.args in
    let at = c.loop-i in
    Says at.repeat (get_or a.ends.now at.i 0) (get_or a.lengths.now at.i 0) (get_or a.frames.now at.i 0)
    (get_or a.kept.now at.i 0) = says _ _ _ _ _ (sym c.is_again.ensures ∙ c.if-is_again.true) in
    let in_ends : c.loop-i.i < length c.args.ends.now = omega (arith, c.least-n.ensures, c.least.ensures, c.loop-i-test.true) in
    let in_lengths : c.loop-i.i < length c.args.lengths.now = omega (arith, c.least-n.ensures, c.least.ensures, c.loop-i-test.true) in
    let in_frames : c.loop-i.i < length c.args.frames.now = omega (arith, c.least-n.ensures, c.least-2.ensures, c.loop-i-test.true) in
    let in_kept : c.loop-i.i < length c.args.kept.now = omega (arith, c.least-n.ensures, c.least-2.ensures, c.loop-i-test.true) in
    let full : ltb (length c.loop-i.out - c.loop-i.place) longest ≡ false = sym c.lacks_line.ensures ∙ c.if-lacks_line.false in
    let room : c.loop-i.place + longest ≤ length c.loop-i.out = let left = ltb-false (length c.loop-i.out - c.loop-i.place) longest full in omega arith in
    let short : let a = c.args in
    let i = c.loop-i.i in
    length (entry_line (get_or a.ends.now i 0) (get_or a.lengths.now i 0) (get_or a.frames.now i 0) (get_or a.kept.now i 0)) ≤ longest = let i = c.loop-i.i in
    entry-most _ _ _ _ (c.type_inv.ends i).fits (c.type_inv.lengths i).fits
    (c.type_inv.frames i).fits (c.type_inv.kept i).fits in
    let line = same_line told c.put_again-place.ensures in (
      one_more c.loop-i.invariant.0 in_ends in_lengths in_frames in_kept full
          line (ends-within room short line),
      c.loop-i.invariant.1,
    )

pub put_next-next-requires : goal.put_next-next-requires
put_next-next-requires c =
    let full : ltb (length c.loop-i.out - c.loop-i.place) longest ≡ false = sym c.lacks_line.ensures ∙ c.if-lacks_line.false in
    let room : c.loop-i.place + longest ≤ length c.loop-i.out = let left = ltb-false (length c.loop-i.out - c.loop-i.place) longest full in omega arith in
    room

pub loop-i-preserved : goal.loop-i-preserved
loop-i-preserved c =
    let in_ends : c.loop-i.i < length c.args.ends.now = omega (arith, c.least-n.ensures, c.least.ensures, c.loop-i-test.true) in
    let in_lengths : c.loop-i.i < length c.args.lengths.now = omega (arith, c.least-n.ensures, c.least.ensures, c.loop-i-test.true) in
    let in_frames : c.loop-i.i < length c.args.frames.now = omega (arith, c.least-n.ensures, c.least-2.ensures, c.loop-i-test.true) in
    let in_kept : c.loop-i.i < length c.args.kept.now = omega (arith, c.least-n.ensures, c.least-2.ensures, c.loop-i-test.true) in
    let full : ltb (length c.loop-i.out - c.loop-i.place) longest ≡ false = sym c.lacks_line.ensures ∙ c.if-lacks_line.false in (
      one_more c.loop-i.invariant.0 in_ends in_lengths in_frames in_kept full
          c.put_next-next.ensures.laid c.put_next-next.ensures.within,
      c.put_next-next.ensures.sound,
    )

pub shape_of-out : goal.shape_of-out
shape_of-out c = same_size c.loop-i.invariant.0

pub returns : goal.returns
returns c =
    all_done c.loop-i.invariant.0 (omega (arith, c.least-n.ensures, c.least-2.ensures, c.least.ensures, c.loop-i-test.false))
