-- `list_headers::put_comments` meets its contract. The loop's invariant: what is left makes the same of what was put. Assumes
-- nothing.
use mathlib.Core.Path.{◌≡◌, refl, sym, ap, ◌∙◌}
use native.Mathlib.Omega.{arith}
use lib.ListN.{length}
use Rattle.octets.proofs.Copying.{length-copied}
use Rattle.refusal.specs.Told.{gives, told}
use Rattle.text_put.proofs.Putting.{put-known}
use Rattle.text_pieces.specs.Pieces.{laying}
use Rattle.text_pieces.proofs.Laying.{one_piece}
use Rattle.tags_layout.specs.Layout.{bytes_of}
use Rattle.tags_layout.specs.Finding.{find_text}
use Rattle.tags_lines.specs.Lines.{comment_line}
use Rattle.list_headers.proofs.Pieces.{some-comment}
use Rattle.list_headers.proofs.Turns.{again, none_left, no_comments, comment-found, comment-missing, text-inside}
use Rattle.list_headers.proofs.put_comments.Goals as goal

pub loop-left-init : goal.loop-left-init
loop-left-init c = (refl, refl)

pub overflow_add-place : goal.overflow_add-place
overflow_add-place c =
    -- the part that was found
    let found : find_text c.args.b.now c.loop-left.place ≡ gives c.in-Ok.part = sym c.find_text.ensures ∙ ap told c.in-Ok.is in
    omega (arith, text-inside c.args.b.now c.loop-left.place c.in-Ok.part found)

pub returns-in-Err : goal.returns-in-Err
returns-in-Err c =
    let a = c.args in
    let refused = sym c.find_text.ensures ∙ ap told c.in-Err.is in
    none_left _ _ _ (comment-missing a.b.now c.loop-left.left c.loop-left.place _ c.loop-left-test.true refused)
    c.loop-left.invariant.0

pub overflow_sub-left : goal.overflow_sub-left
overflow_sub-left c = omega arith

pub loop-left-smaller : goal.loop-left-smaller
loop-left-smaller c = omega arith

pub loop-left-preserved : goal.loop-left-preserved
loop-left-preserved c =
    let found : find_text c.args.b.now c.loop-left.place ≡ gives c.in-Ok.part = sym c.find_text.ensures ∙ ap told c.in-Ok.is in
    let a = c.args in
    let b = a.b.now in
    let part = c.in-Ok.part in
    let line = comment_line (bytes_of b part) in
    let known = put-known (ap comment_line c.part_of-comment.ensures) c.put_comment.ensures in
    let moved = one_piece c.loop-left.p line (some-comment (bytes_of b part)) c.after-p.ensures known in
    let next = comment-found b c.loop-left.left c.loop-left.place part c.loop-left-test.true found in
    let size = ap length known.output ∙ length-copied c.loop-left.out c.loop-left.p.at line in
    (again (laying c.loop-left.p c.loop-left.out) _ _ line _ _ moved next c.loop-left.invariant.0, size ∙ c.loop-left.invariant.1)

pub returns : goal.returns
returns c =
    let b = c.args.b.now in
    none_left _ _ _ (no_comments b c.loop-left.left c.loop-left.place c.loop-left-test.false) c.loop-left.invariant.0
