-- `crop_start::find_in` meets its contract. The loop's invariant: the walk has come to a page. Assumes nothing.
use Prim.Native.Nat.{◌+◌, ◌-◌, ◌≤◌}
use mathlib.Core.Path.{◌≡◌, refl, ap, ◌∙◌}
use native.Mathlib.Omega.{arith}
use borrow.Author.Rules.{rules}
use lib.ListN.{length}
use Rattle.page_crc.specs.Crc.{page_crc}
use Rattle.stream.specs.Readings.{readings}
use Rattle.stream.specs.Lent.{lent_of}
use Rattle.recording.specs.Pages.{pages_of}
use Rattle.recording_pages.specs.declared.Place.{Place}
use Rattle.recording.proofs.Streams.{room-stays}
use Rattle.crop_start.specs.Start.{best_start}
use Rattle.crop_start.specs.Code.{Walked}
use Rattle.crop_start.proofs.Finding.{walk_begun, best-at_end}
use Rattle.crop_start.proofs.find_in.Given as goal

abbrev pub invariant-loop-walk : goal.invariant-loop-walk
invariant-loop-walk l = Walked l.stream l.position l.walk l.carry × (l.walk.page ≤ l.last + 1) × (length l.carry ≡ length l.initial.carry) × (length l.ends ≡ length l.initial.ends)
    × (length l.lengths ≡ length l.initial.lengths) × (length l.kept ≡ length l.initial.kept) × (length l.frames ≡ length l.initial.frames)

abbrev pub decreases-loop-walk : goal.decreases-loop-walk
decreases-loop-walk l = length l.stream - l.walk.at
