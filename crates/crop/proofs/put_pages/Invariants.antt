-- `crop::put_pages` meets its contract. The loop's invariant: what is left makes what all of it makes. Assumes nothing.
use Prim.Native.Nat.{◌-◌}
use native.Mathlib.Omega.{arith}
use borrow.Author.Rules.{rules}
use lib.ListN.{length}
use Rattle.octets.specs.Octets.{Octets}
use Rattle.crop.proofs.Putting.{Puts, puts_begin, puts_end, fits, nearer, turned}
use Rattle.crop.proofs.put_pages.Given as goal

abbrev pub invariant-loop-at : goal.invariant-loop-at
invariant-loop-at l = Puts l.stream l.back l.from l.initial.out l.to l.out l.at l.put

abbrev pub decreases-loop-at : goal.decreases-loop-at
decreases-loop-at l = length l.stream - l.at
