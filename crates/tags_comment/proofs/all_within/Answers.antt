-- `tags_comment::all_within` meets its contract. Assumes nothing.
use mathlib.Core.Path.{◌∙◌}
use mathlib.Core.Bool.{◌&&◌}
use borrow.Author.Rules.{rules}
use borrow.Author.Tests.{tests}
use lib.Dec.{leb}
use Prim.Native.Nat.{ℕ}
use Rattle.std.proofs.lemmas.Iterator.{YieldsList-from_slice}
use Rattle.std.proofs.lemmas.Iterator.Search.{all_from_yields_List}
use Rattle.tags_comment.proofs.Within.{each_within}
use Rattle.tags_comment.proofs.all_within.Goals as goal

pub returns : goal.returns
returns c =
    let a = c.args in
    let low : ℕ = a.low in
    let high : ℕ = a.high in
    all_from_yields_List (λ (b : ℕ). leb low b && leb b high) _ _ _ c.all.ensures.ran (YieldsList-from_slice a.s.now cc) (λ x b q k. search (rules, tests))
    ∙ each_within low high a.s.now
