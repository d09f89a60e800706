-- `tags_comment::same_name` meets its contract. Assumes nothing.
use mathlib.Core.Path.{sym, ◌∙◌}
use borrow.Author.Rules.{rules}
use borrow.Author.Tests.{tests}
use lib.Dec.{eqb}
use Prim.Native.Nat.{ℕ}
use Rattle.std.proofs.lemmas.Iterator.{YieldsList-from_slice, YieldsList-from_zip}
use Rattle.std.proofs.lemmas.Iterator.Search.{all_from_yields_List}
use Rattle.tags_comment.specs.Names.{upper}
use Rattle.tags_comment.proofs.Names.{other_length, letters}
use Rattle.tags_comment.proofs.same_name.Goals as goal

pub returns-then-n-m : goal.returns-then-n-m
returns-then-n-m c = let a = c.args in sym (other_length a.n.now a.m.now c.if-n-m.true)

pub returns : goal.returns
returns c =
    let n = c.args.n.now in
    let m = c.args.m.now in
    all_from_yields_List (λ (p : ℕ × ℕ). eqb (upper p.0) (upper p.1)) c.all.new.self _ _ c.all.ensures.ran
    (YieldsList-from_zip (YieldsList-from_slice n cc) (YieldsList-from_slice m cc)) (λ x b q k. search (rules, tests))
    ∙ letters n m c.if-n-m.false
