-- `feed_pages::run` meets its contract. The loop's invariant: what is left of the run makes the whole. Assumes nothing.
use Prim.Native.Nat.{suc, ◌-◌}
use mathlib.Core.Path.{◌≡◌}
use lib.ListN.{length}
use Rattle.page_crc_tables.specs.Table.{entry_in}
use Rattle.page_crc.specs.Sliced.{page_sliced}
use Rattle.stream.specs.Readings.{readings}
use Rattle.stream.specs.Lent.{lent_of}
use Rattle.feed_pages.specs.Run.{runs, Inside}
use Rattle.feed_pages.specs.Answers.{reached}
use Rattle.feed_pages.proofs.run.Given as goal

abbrev pub invariant-loop-next : goal.invariant-loop-next
invariant-loop-next l = (runs (suc (length l.buffer) - l.progress.pages) (readings (page_sliced (entry_in l.tables))) l.buffer (reached l.progress) (lent_of l.carry l.ends l.lengths l.kept l.frames)
    ≡ runs (suc (length l.buffer)) (readings (page_sliced (entry_in l.tables))) l.buffer (reached l.initial.progress) (lent_of l.initial.carry l.initial.ends l.initial.lengths l.initial.kept l.initial.frames))
    × Inside (reached l.progress) l.buffer (lent_of l.carry l.ends l.lengths l.kept l.frames)
    × (length l.carry ≡ length l.initial.carry) × (length l.ends ≡ length l.initial.ends) × (length l.lengths ≡ length l.initial.lengths) × (length l.kept ≡ length l.initial.kept)
    × (length l.frames ≡ length l.initial.frames)

abbrev pub decreases-loop-next : goal.decreases-loop-next
decreases-loop-next l = length l.buffer - l.progress.bytes
