-- `salvage_list::serial_of` meets its contract. The loop's invariant: the pages from the place on have the serial that all have.
-- Assumes nothing.
use Prim.Native.Nat.{◌-◌}
use mathlib.Core.Path.{◌≡◌, sym, ap, ◌∙◌}
use mathlib.Core.Bool.{true, false}
use native.Mathlib.Omega.{arith}
use borrow.Author.Rules.{rules}
use lib.ListN.{length}
use Rattle.page_crc_tables.specs.Table.{entry_in}
use Rattle.page_crc.specs.Sliced.{page_sliced}
use Rattle.page_flags.specs.Flags.{is_first_page}
use Rattle.salvage_rules.specs.Good.{good_pages, serial_in}
use Rattle.salvage_list.proofs.Walking.{left, Found, found, all_left, nearer}
use Rattle.salvage_list.proofs.Collecting.{no_serial, serial-here, serial-later}
use Rattle.salvage_list.proofs.serial_of.Goals as goal

pub loop-place-init : goal.loop-place-init
loop-place-init c =
    let a = c.args in
    let crc = page_sliced (entry_in a.tables.now) in
    rw c.next_page_with-place.ensures (found crc a.buffer.now 0, ap serial_in (all_left crc a.buffer.now))

pub returns-then-is_first_page : goal.returns-then-is_first_page
returns-then-is_first_page c =
    let l = c.loop-place in
    let a = c.args in
    let crc = page_sliced (entry_in a.tables.now) in
    let seen = c.seen_at-seen.ensures in
    let first : is_first_page c.seen_at-seen.result.header.flags ≡ true = sym c.is_first_page.ensures ∙ c.if-is_first_page.true in
    rw seen (sym (serial-here crc a.buffer.now l.place l.invariant.0 (omega arith) (rw seen at first)) ∙ l.invariant.1)

pub loop-place-smaller : goal.loop-place-smaller
loop-place-smaller c =
    let l = c.loop-place in
    let a = c.args in
    let crc = page_sliced (entry_in a.tables.now) in
    rw (c.next_page_with-place-in-loop-place.ensures, c.seen_at-seen.ensures)
    (omega (arith, nearer crc a.buffer.now l.place l.invariant.0 (omega arith)))

pub loop-place-preserved : goal.loop-place-preserved
loop-place-preserved c =
    let l = c.loop-place in
    let a = c.args in
    let crc = page_sliced (entry_in a.tables.now) in
    let seen = c.seen_at-seen.ensures in
    let other : is_first_page c.seen_at-seen.result.header.flags ≡ false = sym c.is_first_page.ensures ∙ c.if-is_first_page.false in
    rw (c.next_page_with-place-in-loop-place.ensures, seen)
    (found crc a.buffer.now _, sym (serial-later crc a.buffer.now l.place l.invariant.0 (omega arith) (rw seen at other)) ∙ l.invariant.1)

pub returns : goal.returns
returns c =
    let l = c.loop-place in
    let a = c.args in
    sym (no_serial (page_sliced (entry_in a.tables.now)) a.buffer.now l.place (omega arith)) ∙ l.invariant.1
