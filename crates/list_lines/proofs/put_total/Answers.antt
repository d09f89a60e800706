-- `list_lines::put_total` meets its contract: four numbers and their names, and a line feed. Assumes nothing.
use mathlib.Core.Path.{◌≡◌, refl, sym, ◌∙◌}
use mathlib.Core.Bool.{false}
use Prim.Native.Nat.{◌+◌, ◌≤◌}
use native.Mathlib.Omega.{arith}
use borrow.Author.Tests.{ltb-false}
use lib.Dec.{ltb}
use lib.ListN.{length, length-set}
use Rattle.text_put.proofs.Laying.{one_store, laid_as, put_all, put-none}
use Rattle.list_lines.specs.Lines.{total_kept, and_skipped, and_trimmed, and_hole, total_line}
use Rattle.list_lines.proofs.Lines.{length-pair, length-total, laid-total}
use Rattle.list_lines.proofs.put_total.Goals as goal

pub lacks_total-requires : goal.lacks_total-requires
lacks_total-requires c = tt

pub returns-then-lacks_total : goal.returns-then-lacks_total
returns-then-lacks_total c = put-none (sym c.lacks_total.ensures ∙ c.if-lacks_total.true)

pub put_pair-middle-requires : goal.put_pair-middle-requires
put_pair-middle-requires c =
    -- the line fits
    let tested : let a = c.args in ltb (length a.out.now) (a.at + length (total_line a.kept a.skipped a.trimmed a.hole)) ≡ false = sym c.lacks_total.ensures ∙ c.if-lacks_total.false in
    let fits : let a = c.args in a.at + length (total_line a.kept a.skipped a.trimmed a.hole) ≤ length a.out.now = ltb-false _ _ tested in
    let a = c.args in
    omega (arith, fits, length-total a.kept a.skipped a.trimmed a.hole)

pub put_pair-last-requires : goal.put_pair-last-requires
put_pair-last-requires c =
    let tested : let a = c.args in ltb (length a.out.now) (a.at + length (total_line a.kept a.skipped a.trimmed a.hole)) ≡ false = sym c.lacks_total.ensures ∙ c.if-lacks_total.false in
    let fits : let a = c.args in a.at + length (total_line a.kept a.skipped a.trimmed a.hole) ≤ length a.out.now = ltb-false _ _ tested in
    let a = c.args in
    omega (
      arith,
      fits,
      length-total a.kept a.skipped a.trimmed a.hole,
      length-pair total_kept and_skipped a.kept a.skipped,
    )

pub bounds-out-last : goal.bounds-out-last
bounds-out-last c =
    let tested : let a = c.args in ltb (length a.out.now) (a.at + length (total_line a.kept a.skipped a.trimmed a.hole)) ≡ false = sym c.lacks_total.ensures ∙ c.if-lacks_total.false in
    let fits : let a = c.args in a.at + length (total_line a.kept a.skipped a.trimmed a.hole) ≤ length a.out.now = ltb-false _ _ tested in
    -- there is room for the line feed
    let room : c.put_pair-last.result + 1 ≤ length c.put_pair-last.new.out = let a = c.args in
    omega (
      arith,
      fits,
      length-total a.kept a.skipped a.trimmed a.hole,
      length-pair total_kept and_skipped a.kept a.skipped,
      length-pair and_trimmed and_hole a.trimmed a.hole,
    ) in
    omega (arith, room)

pub overflow_add-result : goal.overflow_add-result
overflow_add-result c =
    let tested : let a = c.args in ltb (length a.out.now) (a.at + length (total_line a.kept a.skipped a.trimmed a.hole)) ≡ false = sym c.lacks_total.ensures ∙ c.if-lacks_total.false in
    let fits : let a = c.args in a.at + length (total_line a.kept a.skipped a.trimmed a.hole) ≤ length a.out.now = ltb-false _ _ tested in
    let room : c.put_pair-last.result + 1 ≤ length c.put_pair-last.new.out = let a = c.args in
    omega (
      arith,
      fits,
      length-total a.kept a.skipped a.trimmed a.hole,
      length-pair total_kept and_skipped a.kept a.skipped,
      length-pair and_trimmed and_hole a.trimmed a.hole,
    ) in
    omega (arith, room)

pub shape_of-out : goal.shape_of-out
shape_of-out c = simp length-set (omega arith)

pub returns : goal.returns
returns c =
    let tested : let a = c.args in ltb (length a.out.now) (a.at + length (total_line a.kept a.skipped a.trimmed a.hole)) ≡ false = sym c.lacks_total.ensures ∙ c.if-lacks_total.false in
    let fits : let a = c.args in a.at + length (total_line a.kept a.skipped a.trimmed a.hole) ≤ length a.out.now = ltb-false _ _ tested in
    let room : c.put_pair-last.result + 1 ≤ length c.put_pair-last.new.out = let a = c.args in
    omega (
      arith,
      fits,
      length-total a.kept a.skipped a.trimmed a.hole,
      length-pair total_kept and_skipped a.kept a.skipped,
      length-pair and_trimmed and_hole a.trimmed a.hole,
    ) in
    let a = c.args in
    put_all tested
    (laid-total a.kept a.skipped a.trimmed a.hole c.put_pair-middle.ensures c.put_pair-last.ensures
    (laid_as 1 refl refl (one_store _ _ _ room)) fits)
