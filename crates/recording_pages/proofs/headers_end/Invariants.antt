-- `recording_pages::headers_end` meets its contract. The loop's invariant: so many pages of the headers are left. Assumes nothing.
use Prim.Native.Nat.{◌+◌, ◌-◌, ◌<◌}
use mathlib.Core.Path.{ap, sym, ◌∙◌}
use native.Mathlib.Omega.{arith}
use borrow.Author.Rules.{rules}
use lib.ListN.{length}
use Rattle.recording_pages.specs.Places.{page_at}
use Rattle.recording_pages.proofs.Places.{at_first, at_next}
use Rattle.recording_pages.proofs.HeaderPlaces.{Left, left-first, none_left, last-left, more_left, none-there, ends-here}
use Rattle.recording_pages.proofs.headers_end.Given as goal

abbrev pub invariant-loop-at : goal.invariant-loop-at
invariant-loop-at l = Left l.stream l.page l.at

abbrev pub decreases-loop-at : goal.decreases-loop-at
decreases-loop-at l = length l.stream - l.at
