-- `recording::judge_in` meets its contract. Assumes nothing.
use Rattle.std.specs.Prelude.{Result, Ok, Err}
use Prim.Native.Nat.{◌-◌, ◌<◌}
use mathlib.Core.Path.{◌≡◌, refl, ◌∙◌}
use native.Mathlib.Omega.{arith}
use borrow.Author.Rules.{rules}
use lib.ListN.{length}
use Rattle.octets.specs.Octets.{Bytes}
use Rattle.page_crc.specs.Crc.{page_crc}
use Rattle.stream.specs.Readings.{Readings, readings}
use Rattle.stream.specs.Lent.{lent_of}
use Rattle.recording.specs.declared.Accepted.{Accepted}
use Rattle.recording.specs.declared.Whole.{Whole}
use Rattle.recording.specs.declared.RefusedAt.{RefusedAt}
use Rattle.std.specs.declared.ops.ControlFlow.TheVariants.{Continue, Break}
use Rattle.recording.specs.Judging.{judge_buffer}
use Rattle.recording.specs.Answers.{told_judged, judge_after, Within}
use Rattle.recording.proofs.Steps.{step_on, step_ends, from_start}
use Rattle.recording.proofs.Streams.{room-stays}
use Rattle.recording.proofs.judge_in.Invariants.{R}
use Rattle.recording.proofs.judge_in.Goals as goal

pub loop-next-init : goal.loop-next-init
loop-next-init c = (refl, record { bytes = omega arith; pages = omega arith; packets = omega arith }, refl, refl, refl, refl, refl)

pub feed_run-requires : goal.feed_run-requires
feed_run-requires c =
    let l = c.loop-next in
    record {
      within = l.invariant.1;
      room = room-stays (lent_of c.args.carry.now c.args.ends.now c.args.lengths.now c.args.kept.now c.args.frames.now) (lent_of l.carry l.ends l.lengths l.kept l.frames) c.requires l.invariant.2 l.invariant.3 l.invariant.4 l.invariant.5 l.invariant.6;
    }

pub loop-next-smaller : goal.loop-next-smaller
loop-next-smaller c =
    let l = c.loop-next in
    let w = step_on R c.args.buffer.now l.accepted l.carry c.feed_run.new.carry c.feed_run.ensures c.in-Continue.is in
    omega (arith, w.1, w.2.bytes)

pub loop-next-preserved : goal.loop-next-preserved
loop-next-preserved c =
    let l = c.loop-next in
    let inv = l.invariant in
    let w = step_on R c.args.buffer.now l.accepted l.carry c.feed_run.new.carry c.feed_run.ensures c.in-Continue.is in (
      w.0 ∙ inv.0,
      w.2,
      c.carry-1.given ∙ inv.2,
      c.ends-1.given ∙ inv.3,
      c.lengths-1.given ∙ inv.4,
      c.kept-1.given ∙ inv.5,
      c.frames-1.given ∙ inv.6,
    )

pub shape_of-carry-in-Break : goal.shape_of-carry-in-Break
shape_of-carry-in-Break c = c.carry-1.given ∙ c.loop-next.invariant.2

pub shape_of-ends-in-Break : goal.shape_of-ends-in-Break
shape_of-ends-in-Break c = c.ends-1.given ∙ c.loop-next.invariant.3

pub shape_of-lengths-in-Break : goal.shape_of-lengths-in-Break
shape_of-lengths-in-Break c = c.lengths-1.given ∙ c.loop-next.invariant.4

pub shape_of-kept-in-Break : goal.shape_of-kept-in-Break
shape_of-kept-in-Break c = c.kept-1.given ∙ c.loop-next.invariant.5

pub shape_of-frames-in-Break : goal.shape_of-frames-in-Break
shape_of-frames-in-Break c = c.frames-1.given ∙ c.loop-next.invariant.6

pub returns-in-Break : goal.returns-in-Break
returns-in-Break c =
    let l = c.loop-next in
    let b : Bytes = c.args.buffer.now in
    step_ends R b l.accepted l.carry c.feed_run.new.carry c.feed_run.ensures c.in-Break.is
    ∙ l.invariant.0
    ∙ from_start R b _ c.start.result c.start.ensures
