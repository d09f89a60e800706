-- `salvage_kept::settle` meets its contract: each turn but the last makes the list shorter by a page. Assumes nothing.
use Rattle.std.proofs.Common.{◌≡◌, length, sym, refl, ap, ◌∙◌, ap₂, arith, rules}
use Rattle.stream.specs.Lent.{lent_of}
use Rattle.salvage_rules.specs.Listed.{listed_in}
use Rattle.salvage_kept.specs.Code.{pass_of}
use Rattle.salvage_kept.proofs.Settling.{Goes, goes-begins, goes-ready, goes-ends, can_drop, goes_fewer, goes_on}
use Rattle.salvage_kept.proofs.settle.Given as goal

abbrev pub invariant-loop-list : goal.invariant-loop-list
invariant-loop-list l = Goes l.buffer l.initial.list l.list l.pass (lent_of l.initial.carry l.initial.ends l.initial.lengths l.initial.kept l.initial.frames) (lent_of l.carry l.ends l.lengths l.kept l.frames) l.initial.keep l.keep l.initial.spare l.spare

abbrev pub decreases-loop-list : goal.decreases-loop-list
decreases-loop-list l = length (listed_in l.buffer l.list)
