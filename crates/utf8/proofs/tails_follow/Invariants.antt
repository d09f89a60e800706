-- `utf8::tails_follow` meets its contract. The loop's invariant: what is left decides. Assumes nothing.
use mathlib.Core.Path.{◌≡◌}
use Prim.Native.Nat.{◌-◌}
use lib.ListN.{drop}
use Rattle.utf8.specs.Characters.{tails_follow}
use Rattle.utf8.proofs.tails_follow.Given as goal

abbrev pub invariant-loop-tail : goal.invariant-loop-tail
invariant-loop-tail l = tails_follow (l.n - l.tail-index) (drop l.tail-index l.tails) ≡ tails_follow l.n (drop l.at l.s)
