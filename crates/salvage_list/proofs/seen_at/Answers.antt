-- `salvage_list::seen_at` meets its contract. Assumes nothing.
use Prim.Native.Nat.{◌-◌, ◌^◌}
use mathlib.Core.Path.{◌≡◌, sym, ap, ◌∙◌}
use native.Mathlib.Omega.{arith}
use borrow.Author.Rules.{rules}
use lib.ListN.{length}
use Rattle.salvage_list.specs.Collect.{seen_at}
use Rattle.salvage_list.proofs.There.{bytes_fit}
use Rattle.salvage_list.proofs.seen_at.Goals as goal

pub overflow_add-end : goal.overflow_add-end
overflow_add-end c =
    let a = c.args in
    let fit = bytes_fit a.buffer.now a.place (2 ^ 64 - 1) (omega arith) (omega arith) in
    omega (arith, fit, ap length c.page_at-page.ensures)

pub returns : goal.returns
unfolding seen_at
returns c = rw (c.header_of-header.ensures, c.page_at-page.ensures)
