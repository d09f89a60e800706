-- `recording::judge_in` meets its contract. Assumes nothing.
use Rattle.std.specs.Prelude.{Result, Ok, Err}
use Prim.Native.Nat.{◌-◌, ◌<◌}
use mathlib.Core.Path.{◌≡◌, refl, ◌∙◌}
use native.Mathlib.Omega.{arith}
use borrow.Author.Rules.{rules}
use lib.ListN.{length}
use Rattle.octets.specs.Octets.{Bytes}
use Rattle.page_crc.specs.Crc.{page_crc}
use Rattle.stream.specs.Readings.{Readings, readings}
use Rattle.stream.specs.Lent.{lent_of}
use Rattle.recording.specs.declared.Accepted.{Accepted}
use Rattle.recording.specs.declared.Whole.{Whole}
use Rattle.recording.specs.declared.RefusedAt.{RefusedAt}
use Rattle.std.specs.declared.ops.ControlFlow.TheVariants.{Continue, Break}
use Rattle.recording.specs.Judging.{judge_buffer}
use Rattle.recording.specs.Answers.{told_judged, judge_after, Within}
use Rattle.recording.proofs.Steps.{step_on, step_ends, from_start}
use Rattle.recording.proofs.Streams.{room-stays}
use Rattle.recording.proofs.judge_in.Given as goal

abbrev pub R : Readings
R = readings page_crc

abbrev pub invariant-loop-next : goal.invariant-loop-next
invariant-loop-next l = (judge_after R l.buffer l.accepted l.carry ≡ judge_after R l.buffer l.initial.accepted l.initial.carry) × Within l.buffer l.accepted
    × (length l.carry ≡ length l.initial.carry) × (length l.ends ≡ length l.initial.ends) × (length l.lengths ≡ length l.initial.lengths) × (length l.kept ≡ length l.initial.kept)
    × (length l.frames ≡ length l.initial.frames)

abbrev pub decreases-loop-next : goal.decreases-loop-next
decreases-loop-next l = length l.buffer - l.accepted.bytes
