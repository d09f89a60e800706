-- `check_stream::gain::gather` meets its contract. The loop's invariant: the bodies from a page on are left. Assumes nothing.
use Prim.Native.Nat.{◌-◌}
use mathlib.Core.Path.{ap}
use native.Mathlib.Omega.{arith}
use borrow.Author.Rules.{rules}
use lib.ListN.{length}
use Rattle.check_stream.proofs.Gathering.{Gathers, gathers_first, gathers_end, body-fits, page-inside, gathers_on}
use Rattle.check_stream.proofs.gain.gather.Given as goal

abbrev pub invariant-loop-page : goal.invariant-loop-page
invariant-loop-page l = Gathers l.stream l.initial.packet l.packet l.page l.at l.size

abbrev pub decreases-loop-page : goal.decreases-loop-page
decreases-loop-page l = l.headers - l.page
