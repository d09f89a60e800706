-- `feed_page::feed_parts` meets its contract: `Pages` has 1 and 2, `page_due` 3 to 8, and `feed_due` the others. Assumes nothing.
use Rattle.std.specs.Prelude.{Ok}
use Rattle.std.proofs.lemmas.Result.{err_from_is_err_and}
use mathlib.Core.Path.{◌≡◌, sym}
use mathlib.Core.Bool.{false}
use Prim.Native.Nat.{ℕ}
use Rattle.octets.specs.Octets.{Bytes}
use Rattle.page_layout.specs.declared.PageHeader.{PageHeader}
use Rattle.stream.specs.declared.Core.{Core}
use Rattle.stream.specs.State.{is_ended}
use Rattle.stream.specs.Lent.{Lent, lent_of, is_short}
use Rattle.feed_page.specs.Stages.{PartsOf, Unrefused}
use Rattle.feed_page.proofs.Pages.{none_unread, some_unread}
use Rattle.feed_page.proofs.feed_parts.Goals as goal

-- 1 and 2 were not found
unrefused : (crc : Bytes → ℕ) (core : Core) (h : PageHeader) (l body b : Bytes) (m : Lent) → (is_ended core.phase ≡ false) × (is_short m ≡ false)
    → PartsOf crc b h l body → Unrefused crc core (Ok h) b m
unrefused crc core h l body b m passed parts = record { reads = sym parts.reads; going = passed.0; room = passed.1 }

pub returns : goal.returns
returns c =
    λ crc b parts.
    let a = c.args in
    let m : Lent = lent_of a.carry.now a.ends.now a.lengths.now a.kept.now a.frames.now in
    let free = unrefused crc a.core a.h a.lacing.now a.body.now b m (none_unread a.core.phase m (sym c.in_ok-check_unread.ensures)) parts in
    c.feed_due.ensures crc a.core b (record {
      awaits = c.in_ok-due.ensures crc b a.tally m free;
      room = free.room;
      lacing = parts.lacing;
      body = parts.body;
      few = parts.few;
    })

pub returns-in_err-due : goal.returns-in_err-due
returns-in_err-due c =
    let p = err_from_is_err_and c.from_residual-in_err-due.result c.from_residual-in_err-due.ensures.1 in
    rw (p.1, p.2)
    (λ crc b parts.
    let a = c.args in
    let m : Lent = lent_of a.carry.now a.ends.now a.lengths.now a.kept.now a.frames.now in
    let free = unrefused crc a.core a.h a.lacing.now a.body.now b m (none_unread a.core.phase m (sym c.in_ok-check_unread.ensures)) parts in
    c.in_err-due.ensures crc b a.tally m free)

pub returns-in_err-check_unread : goal.returns-in_err-check_unread
returns-in_err-check_unread c =
    let p = err_from_is_err_and c.from_residual.result c.from_residual.ensures.1 in
    rw (p.1, p.2)
    (λ crc b parts.
    let a = c.args in
    let m : Lent = lent_of a.carry.now a.ends.now a.lengths.now a.kept.now a.frames.now in
    some_unread crc a.core a.tally m b _ (sym c.in_err-check_unread.ensures))
