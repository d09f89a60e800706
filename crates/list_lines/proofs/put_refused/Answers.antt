-- `list_lines::put_refused` meets its contract: two numbers and their names, and a line feed. Assumes nothing.
use mathlib.Core.Path.{◌≡◌, refl, sym, ◌∙◌}
use mathlib.Core.Bool.{false}
use Prim.Native.Nat.{◌+◌, ◌≤◌}
use native.Mathlib.Omega.{arith}
use borrow.Author.Tests.{ltb-false}
use lib.Dec.{ltb}
use lib.ListN.{length}
use Rattle.text_put.proofs.Laying.{one_store, laid_as, put_all, put-none}
use Rattle.list_lines.specs.Lines.{refused_by, on_page, refused_line}
use Rattle.list_lines.proofs.Lines.{length-pair, length-refused, laid-refused}
use Rattle.list_lines.proofs.put_refused.Goals as goal

pub lacks_refused-requires : goal.lacks_refused-requires
lacks_refused-requires c = tt

pub returns-then-lacks_refused : goal.returns-then-lacks_refused
returns-then-lacks_refused c = put-none (sym c.lacks_refused.ensures ∙ c.if-lacks_refused.true)

pub put_pair-last-requires : goal.put_pair-last-requires
put_pair-last-requires c =
    -- the line fits
    let tested : let a = c.args in ltb (length a.out.now) (a.at + length (refused_line a.number a.page)) ≡ false = sym c.lacks_refused.ensures ∙ c.if-lacks_refused.false in
    let fits : let a = c.args in a.at + length (refused_line a.number a.page) ≤ length a.out.now = ltb-false _ _ tested in
    let a = c.args in
    omega (arith, fits, length-refused a.number a.page)

pub bounds-out-last : goal.bounds-out-last
bounds-out-last c =
    let tested : let a = c.args in ltb (length a.out.now) (a.at + length (refused_line a.number a.page)) ≡ false = sym c.lacks_refused.ensures ∙ c.if-lacks_refused.false in
    let fits : let a = c.args in a.at + length (refused_line a.number a.page) ≤ length a.out.now = ltb-false _ _ tested in
    -- there is room for the line feed
    let room : c.put_pair-last.result + 1 ≤ length c.put_pair-last.new.out = let a = c.args in
    omega (arith, fits, length-refused a.number a.page, length-pair refused_by on_page a.number a.page) in
    omega (arith, room)

pub overflow_add-result : goal.overflow_add-result
overflow_add-result c =
    let tested : let a = c.args in ltb (length a.out.now) (a.at + length (refused_line a.number a.page)) ≡ false = sym c.lacks_refused.ensures ∙ c.if-lacks_refused.false in
    let fits : let a = c.args in a.at + length (refused_line a.number a.page) ≤ length a.out.now = ltb-false _ _ tested in
    let room : c.put_pair-last.result + 1 ≤ length c.put_pair-last.new.out = let a = c.args in
    omega (arith, fits, length-refused a.number a.page, length-pair refused_by on_page a.number a.page) in
    omega (arith, room)

pub returns : goal.returns
returns c =
    let tested : let a = c.args in ltb (length a.out.now) (a.at + length (refused_line a.number a.page)) ≡ false = sym c.lacks_refused.ensures ∙ c.if-lacks_refused.false in
    let fits : let a = c.args in a.at + length (refused_line a.number a.page) ≤ length a.out.now = ltb-false _ _ tested in
    let room : c.put_pair-last.result + 1 ≤ length c.put_pair-last.new.out = let a = c.args in
    omega (arith, fits, length-refused a.number a.page, length-pair refused_by on_page a.number a.page) in
    let a = c.args in
    put_all tested
    (laid-refused a.number a.page c.put_pair-last.ensures (laid_as 1 refl refl (one_store _ _ _ room)) fits)
