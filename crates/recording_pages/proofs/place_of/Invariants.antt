-- `recording_pages::place_of` meets its contract. The loop's invariant: page k begins at the place. Assumes nothing.
use Prim.Native.Nat.{◌-◌, ◌≤◌}
use mathlib.Core.Path.{◌≡◌, ap, sym, ◌∙◌}
use native.Mathlib.Omega.{arith}
use borrow.Author.Rules.{rules}
use lib.ListN.{length}
use Rattle.recording.specs.Pages.{pages_of}
use Rattle.recording_pages.specs.Places.{place_of}
use Rattle.recording_pages.proofs.Places.{At, at_first, at_end_lem, at_next, place-past}
use Rattle.recording_pages.proofs.place_of.Given as goal

abbrev pub invariant-loop-k : goal.invariant-loop-k
invariant-loop-k l = At l.stream l.k l.at × (l.k ≤ l.page)

abbrev pub decreases-loop-k : goal.decreases-loop-k
decreases-loop-k l = l.page - l.k
