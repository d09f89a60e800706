-- `salvage_list::is_cut_after` meets its contract. The loop's invariant: what is told from here on is what is told. Assumes
-- nothing.
use Prim.Native.Nat.{◌-◌}
use mathlib.Core.Path.{◌≡◌, refl, sym, ap, ◌∙◌}
use native.Mathlib.Omega.{arith}
use borrow.Author.Rules.{rules}
use borrow.Author.Tests.{not-true, not-false}
use lib.ListN.{length, drop}
use Rattle.octets.specs.Octets.{Bytes}
use Rattle.octets.proofs.Tests.{failed, held}
use Rattle.stream.specs.Page.{page_of}
use Rattle.salvage_rules.specs.Links.{link_of, link_cut}
use Rattle.salvage_rules.specs.Listed.{listed_in}
use Rattle.salvage_list.specs.Next.{link_at}
use Rattle.salvage_list.proofs.Next.{further}
use Rattle.salvage_list.proofs.Cut.{not-onward, no_next, breaks, ends, goes_on}
use Rattle.salvage_list.proofs.is_cut_after.Given as goal

abbrev pub invariant-loop-last : goal.invariant-loop-last
invariant-loop-last l = link_cut l.last (listed_in l.buffer (drop l.at l.list)) ≡ link_cut l.initial.last (listed_in l.buffer (drop l.from l.list))

abbrev pub decreases-loop-last : goal.decreases-loop-last
decreases-loop-last l = length l.list - l.at
