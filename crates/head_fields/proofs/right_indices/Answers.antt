-- `head_fields::right_indices` meets its contract. Assumes nothing.
use mathlib.Core.Path.{◌∙◌}
use borrow.Author.Rules.{rules}
use borrow.Author.Tests.{tests}
use Prim.Native.Nat.{ℕ}
use Rattle.std.proofs.lemmas.Iterator.{YieldsList-from_slice}
use Rattle.std.proofs.lemmas.Iterator.Search.{all_from_yields_List}
use Rattle.head_fields.specs.Right.{right_index}
use Rattle.head_fields.proofs.Checks.{indices}
use Rattle.head_fields.proofs.right_indices.Goals as goal

pub returns : goal.returns
returns c =
    let n : ℕ = c.args.n in
    all_from_yields_List (λ (i : ℕ). right_index n i) _ _ _ c.all.ensures.ran (YieldsList-from_slice c.args.s.now cc) (λ x b q k. search (rules, tests))
    ∙ indices n c.args.s.now
