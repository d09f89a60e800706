-- `list_headers::put_entries` meets its contract. The loop's invariant: what is left makes the same of what was put. Assumes
-- nothing.
use Rattle.refusal.specs.Told.{told}
use mathlib.Core.Path.{◌≡◌, refl, sym, ap, ◌∙◌}
use native.Mathlib.Omega.{arith}
use borrow.Author.Rules.{rules}
use lib.ListN.{length}
use mir.Syntax.{w16}
use mir.Val.{to_z, of_z}
use Rattle.octets.proofs.Copying.{length-copied}
use Rattle.text_put.proofs.Putting.{put-known}
use Rattle.text_pieces.specs.Pieces.{laying}
use Rattle.text_pieces.proofs.Laying.{one_piece}
use Rattle.head_lines.specs.Lines.{entry_text}
use Rattle.list_headers.proofs.Pieces.{some-entry_text}
use Rattle.list_headers.proofs.Turns.{again, none_left, no_entries, entry_next, entry-none}
use Rattle.list_headers.proofs.put_entries.Goals as goal

pub loop-left-init : goal.loop-left-init
loop-left-init c = (refl, (omega arith, refl))

pub returns-in-Err : goal.returns-in-Err
returns-in-Err c =
    let a = c.args in
    let refused = sym c.entry_at.ensures ∙ ap told c.in-Err.is in
    none_left _ _ _ (entry-none a.m.now c.loop-left.left c.loop-left.i _ c.loop-left-test.true refused) c.loop-left.invariant.0

pub overflow_sub-left : goal.overflow_sub-left
overflow_sub-left c = omega arith

pub overflow_add-i : goal.overflow_add-i
overflow_add-i c = omega arith

pub loop-left-smaller : goal.loop-left-smaller
loop-left-smaller c = omega arith

pub loop-left-preserved : goal.loop-left-preserved
loop-left-preserved c =
    let a = c.args in
    let x = c.in-Ok.x in
    let kept : to_z w16 (of_z w16 x) ≡ x = search rules in
    let known = put-known (ap entry_text kept) c.put_entry.ensures in
    let moved = one_piece c.loop-left.p (entry_text x) (some-entry_text x) c.after-p.ensures known in
    let told = sym c.entry_at.ensures ∙ ap told c.in-Ok.is in
    let next = entry_next a.m.now c.loop-left.left c.loop-left.i x c.loop-left-test.true told in
    let size = ap length known.output ∙ length-copied c.loop-left.out c.loop-left.p.at (entry_text x) in (
      again (laying c.loop-left.p c.loop-left.out) _ _ (entry_text x) _ _ moved next c.loop-left.invariant.0,
      (omega arith, size ∙ c.loop-left.invariant.1.1),
    )

pub returns : goal.returns
returns c =
    let m = c.args.m.now in
    none_left _ _ _ (no_entries m c.loop-left.left c.loop-left.i c.loop-left-test.false) c.loop-left.invariant.0
