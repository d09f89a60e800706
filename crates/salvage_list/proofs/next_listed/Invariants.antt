-- `salvage_list::next_listed` meets its contract. The loop's invariant: what is found from here on is what is found. Assumes
-- nothing.
use Prim.Native.Nat.{◌≤◌, ◌-◌}
use mathlib.Core.Path.{◌≡◌, sym, ◌∙◌}
use native.Mathlib.Omega.{arith}
use borrow.Author.Rules.{rules}
use borrow.Author.Tests.{eq-eqb, ne_eqb}
use lib.ListN.{length, get_or, drop}
use Rattle.salvage_rules.specs.Listed.{missing_place}
use Rattle.salvage_list.specs.Next.{listed_from, next_listed}
use Rattle.salvage_list.proofs.Next.{found, goes_on, over, begins}
use Rattle.salvage_list.proofs.next_listed.Given as goal

abbrev pub invariant-loop-at : goal.invariant-loop-at
invariant-loop-at l = (l.at ≤ length l.list) × (listed_from l.at (drop l.at l.list) ≡ next_listed l.list l.from)

abbrev pub decreases-loop-at : goal.decreases-loop-at
decreases-loop-at l = length l.list - l.at
