-- `check_stream::find_in` meets its contract. The loop's invariant: the walk has come to a page, and the findings from there on are left.
-- Assumes nothing.
use Prim.Native.Nat.{◌-◌}
use mathlib.Core.Path.{◌≡◌, refl, ◌∙◌}
use native.Mathlib.Omega.{arith}
use borrow.Author.Rules.{rules}
use lib.ListN.{length}
use Rattle.stream.specs.Lent.{lent_of}
use Rattle.recording.proofs.Streams.{room-stays}
use Rattle.check_stream.specs.Code.{Walked}
use Rattle.check_stream.proofs.Finding.{Storing, walk_begun, storing_begun, storing_on, storing_end}
use Rattle.check_stream.proofs.find_in.Given as goal

abbrev pub invariant-loop-walk : goal.invariant-loop-walk
invariant-loop-walk l = Walked l.stream l.walk l.carry × Storing l.stream l.walk l.count l.initial.kinds l.kinds l.initial.pages l.pages × (length l.carry ≡ length l.initial.carry) × (length l.ends ≡ length l.initial.ends)
    × (length l.lengths ≡ length l.initial.lengths) × (length l.kept ≡ length l.initial.kept) × (length l.frames ≡ length l.initial.frames)

abbrev pub decreases-loop-walk : goal.decreases-loop-walk
decreases-loop-walk l = length l.stream - l.walk.at
