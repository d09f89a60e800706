-- `salvage::lines::write_lines` meets its contract. Assumes nothing.
use Rattle.std.proofs.Common.{◌≡◌, ◌-◌, ◌^◌, ◌<◌, length, ap, ◌∙◌, arith, rules}
use Rattle.salvage.specs.Salvaging.{what_in, place_in, size_in}
use Rattle.salvage.specs.Code.{Walks}
use Rattle.salvage.proofs.Walking.{walk_begins}
use Rattle.salvage.proofs.Steps.{can_walk, lines-here, lines-over, goes, nearer, walk_over}
use Rattle.salvage.proofs.Filled.{Column, column_begin, column_on, column_end}
use Rattle.salvage.proofs.lines.write_lines.Goals as goal

pub loop-next-init : goal.loop-next-init
loop-next-init c = rw c.begin-walk.ensures (walk_begins _ _, column_begin what_in _ _ _, column_begin place_in _ _ _, column_begin size_in _ _ _)

pub put_end-requires : goal.put_end-requires
put_end-requires c =
    lines-over _ _ (omega arith) c.requires c.loop-next.invariant.0

pub shape_of-what-then-next-list : goal.shape_of-what-then-next-list
shape_of-what-then-next-list c = c.what-1.given ∙ c.loop-next.invariant.1.long

pub shape_of-places-then-next-list : goal.shape_of-places-then-next-list
shape_of-places-then-next-list c = c.places-1.given ∙ c.loop-next.invariant.2.long

pub shape_of-sizes-then-next-list : goal.shape_of-sizes-then-next-list
shape_of-sizes-then-next-list c = c.sizes-1.given ∙ c.loop-next.invariant.3.long

pub returns-then-next-list : goal.returns-then-next-list
returns-then-next-list c =
    let over = walk_over c.loop-next.invariant.0 c.listed_at-next.ensures c.if-next-list.true in
    let s = c.put_end.ensures in
    record {
      whats = column_end what_in over c.loop-next.invariant.1 s.whats;
      spots = column_end place_in over c.loop-next.invariant.2 s.spots;
      counts = column_end size_in over c.loop-next.invariant.3 s.counts;
    }

pub put_changes-requires : goal.put_changes-requires
put_changes-requires c =
    lines-here (omega arith) (omega arith) c.requires c.loop-next.invariant.0 c.listed_at-next.ensures (omega (arith, c.if-next-list.false))

pub walk_on-walk-requires : goal.walk_on-walk-requires
walk_on-walk-requires c =
    rw c.page_at-page.ensures
    (can_walk (omega arith) (omega arith) c.requires c.loop-next.invariant.0 c.listed_at-next.ensures (omega (arith, c.if-next-list.false)))

pub loop-next-smaller : goal.loop-next-smaller
loop-next-smaller c =
    nearer (omega arith) (omega arith) c.requires c.loop-next.invariant.0 c.listed_at-next.ensures (omega (arith, c.if-next-list.false)) c.changes_of-c.result
    (rw c.page_at-page.ensures at c.walk_on-walk.ensures)

pub loop-next-preserved : goal.loop-next-preserved
loop-next-preserved c =
    let inv = c.loop-next.invariant in
    let is = c.listed_at-next.ensures in
    let inside : c.listed_at-next.result.index < length c.args.list.now = omega (arith, c.if-next-list.false) in
    let told = rw c.page_at-page.ensures at c.changes_of-c.ensures in
    let walked = rw c.page_at-page.ensures at c.walk_on-walk.ensures in
    let s = c.put_changes.ensures in (
      goes (omega arith) (omega arith) c.requires inv.0 is inside told walked,
      column_on (omega arith) (omega arith) c.requires inv.0 is inside what_in inv.1 told s.whats c.what-in-loop-next-1.given walked,
      column_on (omega arith) (omega arith) c.requires inv.0 is inside place_in inv.2 told s.spots c.places-in-loop-next-1.given walked,
      column_on (omega arith) (omega arith) c.requires inv.0 is inside size_in inv.3 told s.counts c.sizes-in-loop-next-1.given walked,
    )
