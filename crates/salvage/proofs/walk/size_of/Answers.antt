-- `salvage::walk::size_of` meets its contract. Assumes nothing.
use Rattle.std.proofs.Common.{ℕ, ◌+◌, ◌≤◌, List, length, ap, ap₂, arith, rules}
use Rattle.salvage_page.specs.Statements.{kept_size}
use Rattle.salvage_page.proofs.Saving.{no_longer}
use Rattle.salvage.proofs.walk.size_of.Goals as goal

pub overflow_add-result : goal.overflow_add-result
overflow_add-result c =
    omega (arith, ap length c.lacing_kept.ensures, no_longer c.args.form c.args.page.now c.requires)

pub overflow_add-result-2 : goal.overflow_add-result-2
overflow_add-result-2 c =
    omega (arith, ap length c.lacing_kept.ensures, ap length c.body_kept.ensures, no_longer c.args.form c.args.page.now c.requires)

pub returns : goal.returns
returns c = ap₂ (λ (l b : List ℕ). 27 + length l + length b) c.lacing_kept.ensures c.body_kept.ensures
