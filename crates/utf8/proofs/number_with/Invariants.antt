-- `utf8::number_with` meets its contract. The loop's invariant: what is left gives the number, which has room. Assumes nothing.
use mathlib.Core.Path.{◌≡◌}
use Prim.Native.Nat.{◌-◌}
use lib.ListN.{drop}
use Rattle.utf8.specs.Characters.{number_with}
use Rattle.utf8.proofs.Tails.{Room}
use Rattle.utf8.proofs.number_with.Given as goal

abbrev pub invariant-loop-tail : goal.invariant-loop-tail
invariant-loop-tail l = (number_with l.x (l.n - l.tail-index) (drop l.tail-index l.tail-items) ≡ number_with l.lead l.n (drop l.at l.s)) × Room l.x (l.n - l.tail-index)
