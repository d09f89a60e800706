-- What a turn finds left of the stream fills the list as the whole stream does. Assumes nothing.
use mathlib.Core.Path.{◌∙◌}
use native.Mathlib.Omega.{arith}
use Rattle.index_walk.proofs.Walking.{nearer}
use Rattle.index_builder.proofs.Filling.{filling_begins, filling_goes_on, filling_ends}
use Rattle.index_builder.proofs.fill.Goals as goal

pub loop-w-init : goal.loop-w-init
loop-w-init c = rw c.begin-w.ensures (filling_begins _ _ _)

pub loop-w-smaller : goal.loop-w-smaller
loop-w-smaller c = rw c.next-w.ensures (nearer c.args.stream.now c.loop-w.w (omega arith))

pub loop-w-preserved : goal.loop-w-preserved
loop-w-preserved c =
    rw (c.store_at.ensures, c.next-w.ensures)
    (filling_goes_on _ _ c.loop-w.w _ (omega arith) (omega arith) (omega arith) c.loop-w.invariant)

pub returns : goal.returns
returns c = filling_ends _ _ c.loop-w.w _ (omega arith) c.loop-w.invariant
