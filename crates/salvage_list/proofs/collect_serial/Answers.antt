-- `salvage_list::collect_serial` meets its contract. Assumes nothing.
use Prim.Native.Nat.{◌-◌}
use mathlib.Core.Path.{◌≡◌, sym, ap, ◌∙◌}
use native.Mathlib.Omega.{arith}
use borrow.Author.Rules.{rules}
use lib.Dec.{eqb}
use lib.ListN.{length}
use Rattle.page_crc_tables.specs.Table.{entry_in}
use Rattle.page_crc.specs.Sliced.{page_sliced}
use Rattle.salvage_list.specs.Collect.{Kept}
use Rattle.salvage_list.proofs.Walking.{nearer}
use Rattle.salvage_list.proofs.Collecting.{Collecting, begins, turns, ends}
use Rattle.salvage_list.proofs.collect_serial.Goals as goal

pub loop-place-init : goal.loop-place-init
loop-place-init c =
    let a = c.args in
    rw c.next_page_with-place.ensures (begins (page_sliced (entry_in a.tables.now)) a.buffer.now a.serial a.work.now)

pub keep-count-requires : goal.keep-count-requires
keep-count-requires c = let l = c.loop-place in omega (arith, l.invariant.few)

pub loop-place-smaller : goal.loop-place-smaller
loop-place-smaller c =
    let l = c.loop-place in
    let a = c.args in
    let crc = page_sliced (entry_in a.tables.now) in
    rw (c.next_page_with-place-in-loop-place.ensures, c.seen_at-seen.ensures)
    (omega (arith, nearer crc a.buffer.now l.place l.invariant.there (omega arith)))

pub loop-place-preserved : goal.loop-place-preserved
loop-place-preserved c =
    let l = c.loop-place in
    let a = c.args in
    let crc = page_sliced (entry_in a.tables.now) in
    let seen = c.seen_at-seen.ensures in
    let kept : Kept (eqb c.seen_at-seen.result.header.serial a.serial) l.count l.place c.keep-count.result l.work c.keep-count.new.work =
    c.keep-count.ensures in
    rw (c.next_page_with-place-in-loop-place.ensures, seen)
    (turns crc a.buffer.now a.serial a.work.now l.place l.count l.work l.invariant (omega arith) (rw seen at kept))

pub shape_of-work : goal.shape_of-work
shape_of-work c = c.loop-place.invariant.long

pub returns : goal.returns
returns c =
    let l = c.loop-place in
    let a = c.args in
    ends (page_sliced (entry_in a.tables.now)) a.buffer.now a.serial a.work.now l.place l.count l.work l.invariant (omega arith)
