-- `feed_audio::packets::measure` meets its contract: `Measuring.antt` has the ways of a turn. Assumes nothing.
use mathlib.Core.Path.{refl, sym}
use Rattle.std.proofs.lemmas.Result.{err_from_is_err_and}
use native.Mathlib.Omega.{arith}
use Rattle.feed_audio.proofs.Measuring.{packable, fits, goes_on, refused, ends, all-measured}
use Rattle.feed_audio.proofs.packets.measure.Goals as goal
use Rattle.feed_audio.proofs.packets.measure.Goals.{then-v-lt255+in_ok-contents, else-v-lt255}

pub loop-i-init : goal.loop-i-init
loop-i-init c = record { tells = refl; adds = c.requires.adds; small = omega arith; few = omega arith; within = omega arith; room = omega arith; size = refl }

pub overflow_add-bytes : goal.overflow_add-bytes
overflow_add-bytes c = omega (arith, fits c.loop-i.invariant c.wide-v.ensures.same (omega arith))

-- the piece that ends here lies in the body
pub overflow_add-end : goal.overflow_add-end
overflow_add-end c = omega (arith, fits c.loop-i.invariant c.wide-v.ensures.same (omega arith))

pub slice_bounds-read_packet_quick-count : goal.slice_bounds-read_packet_quick-count
slice_bounds-read_packet_quick-count c = omega arith

pub slice_bounds-read_packet_quick-start : goal.slice_bounds-read_packet_quick-start
slice_bounds-read_packet_quick-start c = omega (arith, fits c.loop-i.invariant c.wide-v.ensures.same (omega arith))

pub slice_bounds-read_packet_quick-end : goal.slice_bounds-read_packet_quick-end
slice_bounds-read_packet_quick-end c = omega (arith, fits c.loop-i.invariant c.wide-v.ensures.same (omega arith))

pub returns-in_err-contents : goal.returns-in_err-contents
returns-in_err-contents c =
    let p = err_from_is_err_and c.from_residual.result c.from_residual.ensures.1 in
    rw (p.1, p.2) (refused c.loop-i.invariant c.wide-v.ensures.same (omega arith) c.if-v-lt255.true _ (sym c.in_err-contents.ensures))

-- the measure that was read fits one number
pub packed-requires : goal.packed-requires
packed-requires c =
    packable _ _ _ (sym c.in_ok-contents.ensures)

pub offset_bounds-measures-count : goal.offset_bounds-measures-count
offset_bounds-measures-count c = omega arith

pub bounds-measures-count : goal.bounds-measures-count
bounds-measures-count c = omega arith

pub overflow_add-count : goal.overflow_add-count
overflow_add-count c = omega arith

pub overflow_add-sum : goal.overflow_add-sum
overflow_add-sum c =
    let fit = packable _ _ _ (sym c.in_ok-contents.ensures) in
    omega (arith, fit.samples)

pub loop-i-preserved : goal.loop-i-preserved
loop-i-preserved c =
    let at = c.loop-i in
    elim c.if-v-lt255.branch [
      | then-v-lt255+in_ok-contents w ↦
          rw (w.measures-is, w.count-is, w.sum-is, w.start-is, w.bytes-is, w.packed.ensures)
          (ends at.invariant c.wide-v.ensures.same (omega arith) w.if-v-lt255.true (sym w.in_ok-contents.ensures) (omega arith))
      | else-v-lt255 w ↦
          rw (w.measures-is, w.count-is, w.sum-is, w.start-is, w.bytes-is)
          (goes_on at.invariant c.wide-v.ensures.same (omega arith) w.if-v-lt255.false)
    ]

pub returns : goal.returns
returns c =
    let p = c.requires in
    all-measured c.loop-i.invariant c.loop-i-test.false (omega arith) p.one p.few
