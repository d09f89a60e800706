-- `list_lines::put_first` meets its contract: a copy of 20 bytes. Assumes nothing.
use mathlib.Core.Path.{refl, sym, ◌∙◌}
use Prim.Native.Nat.{◌+◌, ◌≤◌}
use native.Mathlib.Omega.{arith}
use borrow.Author.Tests.{ltb-false}
use lib.ListN.{length}
use Rattle.text_put.proofs.Laying.{laid_as, put_all, put-none}
use Rattle.list_lines.specs.Lines.{first_line}
use Rattle.list_lines.proofs.put_first.Goals as goal

pub is_short-requires : goal.is_short-requires
is_short-requires c = tt

pub returns-then-is_short : goal.returns-then-is_short
unfolding first_line
returns-then-is_short c = put-none (sym c.is_short.ensures ∙ c.if-is_short.true)

pub overflow_add-result : goal.overflow_add-result
overflow_add-result c =
    let fits : c.args.at + 20 ≤ length c.args.out.now = ltb-false _ _ (sym c.is_short.ensures ∙ c.if-is_short.false) in
    omega (arith, fits)

pub returns : goal.returns
unfolding first_line
returns c =
    put_all (sym c.is_short.ensures ∙ c.if-is_short.false) (laid_as 20 refl refl c.copy_at.ensures)
