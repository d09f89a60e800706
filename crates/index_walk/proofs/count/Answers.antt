-- `index_walk::count` meets its contract. Assumes nothing.
use Rattle.std.proofs.Common.{◌-◌, length, ap, arith, rules}
use Rattle.recording.specs.Pages.{pages_of}
use Rattle.index_walk.specs.Records.{index_of}
use Rattle.index_walk.proofs.Walking.{all_left, nothing_left, Counts, counts_on_lem, nearer}
use Rattle.index_walk.proofs.count.Goals as goal

pub loop-w-init : goal.loop-w-init
loop-w-init c =
    let b = c.args.stream.now in
    rw c.begin-w.ensures (record { inside = omega arith; few = omega arith; sum = rw (all_left b) (omega arith) })

pub loop-w-smaller : goal.loop-w-smaller
loop-w-smaller c =
    let at = c.loop-w in
    let b = c.args.stream.now in
    rw c.next-w.ensures (nearer b at.w (omega arith))

pub loop-w-preserved : goal.loop-w-preserved
loop-w-preserved c =
    let at = c.loop-w in
    let b = c.args.stream.now in
    let n = length (index_of (pages_of b)) in
    rw c.next-w.ensures (counts_on_lem b n at.w (omega arith) (omega arith) at.invariant)

pub returns : goal.returns
returns c =
    let at = c.loop-w in
    let b = c.args.stream.now in
    omega (arith, at.invariant.sum, ap length (nothing_left b at.w (omega arith)))
