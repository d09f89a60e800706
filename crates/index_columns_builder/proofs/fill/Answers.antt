-- What a turn finds left of the stream fills the lists as the whole stream does. Assumes nothing.
use Prim.Native.Nat.{◌-◌, ◌<◌, ◌^◌}
use lib.ListN.{length}
use native.Mathlib.Omega.{arith}
use borrow.Author.Rules.{rules}
use Rattle.index_walk.proofs.Walking.{nearer}
use Rattle.index_columns_builder.proofs.Filling.{Filled, ends, counted, filled_begins, filled_goes_on}
use Rattle.index_columns_builder.proofs.fill.Goals as goal

pub loop-w-init : goal.loop-w-init
loop-w-init c = filled_begins _ _ _ _ c.begin-w.ensures

pub loop-w-smaller : goal.loop-w-smaller
loop-w-smaller c =
    let b = c.args.stream.now in
    rw c.next-w.ensures (nearer b c.loop-w.w (omega arith))

pub loop-w-preserved : goal.loop-w-preserved
loop-w-preserved c =
    let a = c.args in
    filled_goes_on a.stream.now a.granules.now a.places.now a.sequences.now c.loop-w.w
    c.loop-w.granules c.loop-w.places c.loop-w.sequences c.next-w.ensures (omega arith) (omega arith)
    (omega arith) (omega arith) (omega arith) c.store_at.ensures.granule
    c.store_at.ensures.place c.store_at.ensures.sequence c.loop-w.invariant

pub shape_of-granules : goal.shape_of-granules
shape_of-granules c = c.loop-w.invariant.granules.long

pub shape_of-places : goal.shape_of-places
shape_of-places c = c.loop-w.invariant.places.long

pub shape_of-sequences : goal.shape_of-sequences
shape_of-sequences c = c.loop-w.invariant.sequences.long

pub returns : goal.returns
returns c =
    let at = c.loop-w in
    record {
      count = counted _ _ at.w (omega arith) at.invariant.counts;
      granule = ends _ _ _ at.w _ (omega arith) at.invariant.granules;
      place = ends _ _ _ at.w _ (omega arith) at.invariant.places;
      sequence = ends _ _ _ at.w _ (omega arith) at.invariant.sequences;
    }
