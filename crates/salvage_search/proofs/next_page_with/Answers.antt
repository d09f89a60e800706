-- `salvage_search::next_page_with` meets its contract. The loop's invariant: what the search finds from here on is what it finds.
-- Assumes nothing.
use Prim.Native.Nat.{◌≤◌, ◌-◌}
use mathlib.Core.Path.{◌≡◌, sym, ◌∙◌}
use native.Mathlib.Omega.{arith}
use borrow.Author.Rules.{rules}
use lib.ListN.{length, drop}
use Rattle.octets.specs.Octets.{Bytes}
use Rattle.page_crc_tables.specs.Table.{entry_in}
use Rattle.page_crc.specs.Sliced.{page_sliced}
use Rattle.salvage_search.specs.Search.{next_from, next_page}
use Rattle.salvage_search.proofs.Searching.{found, goes_on, over, begins}
use Rattle.salvage_search.proofs.next_page_with.Goals as goal

pub loop-at-init : goal.loop-at-init
loop-at-init c =
    let a = c.args in
    (omega (arith, c.least-at.ensures), rw c.least-at.ensures (begins (page_sliced (entry_in a.tables.now)) a.buffer.now a.from))

pub loop-at-preserved : goal.loop-at-preserved
loop-at-preserved c =
    let l = c.loop-at in
    let a = c.args in
    (omega arith, sym (goes_on (page_sliced (entry_in a.tables.now)) a.buffer.now l.at (omega arith) (sym c.starts_at.ensures ∙ c.if-starts_at.false)) ∙ l.invariant.1)

pub returns-then-at-buffer : goal.returns-then-at-buffer
returns-then-at-buffer c =
    let l = c.loop-at in
    let a = c.args in
    let b : Bytes = a.buffer.now in
    let end : length b ≡ l.at = omega arith in
    end ∙ sym (over (page_sliced (entry_in a.tables.now)) b l.at (omega arith)) ∙ l.invariant.1

pub returns-then-starts_at : goal.returns-then-starts_at
returns-then-starts_at c =
    let l = c.loop-at in
    let a = c.args in
    sym (found (page_sliced (entry_in a.tables.now)) a.buffer.now l.at (omega arith) (sym c.starts_at.ensures ∙ c.if-starts_at.true)) ∙ l.invariant.1
