-- `salvage_list::next_listed` meets its contract. The loop's invariant: what is found from here on is what is found. Assumes
-- nothing.
use Prim.Native.Nat.{◌≤◌, ◌-◌}
use mathlib.Core.Path.{◌≡◌, sym, ◌∙◌}
use native.Mathlib.Omega.{arith}
use borrow.Author.Rules.{rules}
use borrow.Author.Tests.{eq-eqb, ne_eqb}
use lib.ListN.{length, get_or, drop}
use Rattle.salvage_rules.specs.Listed.{missing_place}
use Rattle.salvage_list.specs.Next.{listed_from, next_listed}
use Rattle.salvage_list.proofs.Next.{found, goes_on, over, begins}
use Rattle.salvage_list.proofs.next_listed.Goals as goal

pub loop-at-init : goal.loop-at-init
loop-at-init c =
    let a = c.args in
    (omega (arith, c.least-at.ensures), rw c.least-at.ensures (begins a.list.now a.from))

pub loop-at-preserved : goal.loop-at-preserved
loop-at-preserved c =
    let l = c.loop-at in
    let ws = c.args.list.now in
    let missing = eq-eqb (get_or ws l.at 0) missing_place c.if-list-at.false in
    (omega arith, sym (goes_on ws l.at (omega arith) missing) ∙ l.invariant.1)

pub returns-then-at-list : goal.returns-then-at-list
returns-then-at-list c =
    let l = c.loop-at in
    let ws = c.args.list.now in
    let end : length ws ≡ l.at = omega arith in
    end ∙ sym (over ws l.at (omega arith)) ∙ l.invariant.1

pub returns-then-list-at : goal.returns-then-list-at
returns-then-list-at c =
    let l = c.loop-at in
    let ws = c.args.list.now in
    let there = ne_eqb (get_or ws l.at 0) missing_place c.if-list-at.true in
    sym (found ws l.at (omega arith) there) ∙ l.invariant.1
