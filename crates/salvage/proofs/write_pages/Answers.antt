-- `salvage::write_pages` meets its contract. Assumes nothing.
use Rattle.std.proofs.Common.{◌≡◌, ◌-◌, ◌^◌, ◌<◌, length, ap, ◌∙◌, arith, rules}
use Rattle.salvage.specs.Code.{Walks}
use Rattle.salvage.proofs.Walking.{walk_begins}
use Rattle.salvage.proofs.Steps.{can_walk, goes, nearer, walk_over}
use Rattle.salvage.proofs.Filled.{Pages, pages_begin, can_put, pages_on, pages-end}
use Rattle.salvage.proofs.write_pages.Goals as goal

pub loop-next-init : goal.loop-next-init
loop-next-init c = rw c.begin-walk.ensures (walk_begins _ _, pages_begin _ _ _)

pub shape_of-out-then-next-list : goal.shape_of-out-then-next-list
shape_of-out-then-next-list c = c.loop-next.invariant.1.size

pub returns-then-next-list : goal.returns-then-next-list
returns-then-next-list c =
    pages-end c.requires.room (walk_over c.loop-next.invariant.0 c.listed_at-next.ensures c.if-next-list.true) c.loop-next.invariant.1

pub put_page-requires : goal.put_page-requires
put_page-requires c =
    rw c.page_at-page.ensures
    (can_put (omega arith) (omega arith) c.requires.kept c.loop-next.invariant.0 c.listed_at-next.ensures (omega (arith, c.if-next-list.false)) c.args.out.now
    c.requires.room c.loop-next.out c.loop-next.invariant.1)

pub walk_on-walk-requires : goal.walk_on-walk-requires
walk_on-walk-requires c =
    rw c.page_at-page.ensures
    (can_walk (omega arith) (omega arith) c.requires.kept c.loop-next.invariant.0 c.listed_at-next.ensures (omega (arith, c.if-next-list.false)))

pub loop-next-smaller : goal.loop-next-smaller
loop-next-smaller c =
    nearer (omega arith) (omega arith) c.requires.kept c.loop-next.invariant.0 c.listed_at-next.ensures (omega (arith, c.if-next-list.false)) c.changes_of.result
    (rw c.page_at-page.ensures at c.walk_on-walk.ensures)

pub loop-next-preserved : goal.loop-next-preserved
loop-next-preserved c = (
  goes (omega arith) (omega arith) c.requires.kept c.loop-next.invariant.0 c.listed_at-next.ensures (omega (arith, c.if-next-list.false))
      (rw c.page_at-page.ensures at c.changes_of.ensures) (rw c.page_at-page.ensures at c.walk_on-walk.ensures),
  pages_on (omega arith) (omega arith) c.requires.kept c.loop-next.invariant.0 c.listed_at-next.ensures (omega (arith, c.if-next-list.false)) c.args.out.now
      c.requires.room c.loop-next.out c.loop-next.invariant.1 c.changes_of.result (rw c.page_at-page.ensures at c.put_page.ensures) (rw c.page_at-page.ensures at c.walk_on-walk.ensures),
)
