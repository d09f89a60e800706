-- `feed_audio::packets::same_packets` meets its contract: `Alike.antt` has the ways of a turn. Assumes nothing.
use native.Mathlib.Omega.{arith}
use Rattle.octets.proofs.Tests.{held}
use Rattle.feed_audio.proofs.Alike.{alikes_start, alike-fits, alike_on, alike-ends, all_alike}
use Rattle.feed_audio.proofs.packets.same_packets.Goals as goal
use Rattle.feed_audio.proofs.packets.same_packets.Goals.{then-v-lt255+else-not-is_single_of, else-v-lt255}

pub loop-x-init : goal.loop-x-init
loop-x-init c = alikes_start _ _ _ c.requires.sums

pub overflow_add-bytes : goal.overflow_add-bytes
overflow_add-bytes c = omega (arith, alike-fits c.loop-x.invariant c.wide-v.ensures.same (omega arith))

-- the piece that ends here lies in the body
pub overflow_add-end : goal.overflow_add-end
overflow_add-end c = omega (arith, alike-fits c.loop-x.invariant c.wide-v.ensures.same (omega arith))

pub slice_bounds-is_single_of-count : goal.slice_bounds-is_single_of-count
slice_bounds-is_single_of-count c = omega arith

pub slice_bounds-is_single_of-start : goal.slice_bounds-is_single_of-start
slice_bounds-is_single_of-start c = omega (arith, alike-fits c.loop-x.invariant c.wide-v.ensures.same (omega arith))

pub slice_bounds-is_single_of-end : goal.slice_bounds-is_single_of-end
slice_bounds-is_single_of-end c = omega (arith, alike-fits c.loop-x.invariant c.wide-v.ensures.same (omega arith))

pub overflow_add-count : goal.overflow_add-count
overflow_add-count c = omega arith

pub loop-x-preserved : goal.loop-x-preserved
loop-x-preserved c =
    let at = c.loop-x in
    elim c.if-v-lt255.branch [
      | then-v-lt255+else-not-is_single_of w ↦
          rw (w.count-is, w.start-is, w.bytes-is)
          (alike-ends at.invariant c.wide-v.ensures.same (omega arith) w.if-v-lt255.true (held w.is_single_of.ensures w.if-not-is_single_of.false))
      | else-v-lt255 w ↦
          rw (w.count-is, w.start-is, w.bytes-is) (alike_on at.invariant c.wide-v.ensures.same (omega arith) w.if-v-lt255.false)
    ]

pub returns : goal.returns
returns c = all_alike c.loop-x.invariant c.loop-x-test.false c.requires.few
