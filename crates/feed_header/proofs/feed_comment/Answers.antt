-- `feed_header::feed_comment` meets its contract: `CommentPage` has its ways. Assumes nothing.
use Rattle.std.specs.Prelude.{Ok}
use Rattle.std.proofs.lemmas.Result.{err_from_is_err_and}
use mathlib.Core.Path.{◌≡◌, sym, ap, ◌∙◌}
use mathlib.Core.Bool.{false}
use lib.ListN.{length}
use Rattle.octets.specs.Octets.{Bytes, total}
use Rattle.page_layout.specs.declared.PageHeader.{PageHeader}
use Rattle.stream.specs.declared.Core.{Core}
use Rattle.stream.specs.declared.Phase.TheVariants.{Comment}
use Rattle.octets.proofs.Tests.{failed, held}
use Rattle.stream.specs.declared.Shape.TheVariants.{GoesOn}
use Rattle.stream.specs.Shape.{shape_of, is_ends}
use Rattle.stream.specs.Feedings.{held_of}
use Rattle.feed_fields.specs.Checked.{found}
use Rattle.feed_header.specs.Code.{lacing_found}
use Rattle.feed_header.proofs.HeaderPages.{ends_is, goes_on-is}
use Rattle.feed_header.proofs.CommentPage.{comment_below_12, piece-shape, piece-within, last-accepted, last-refused, earlier-accepted}
use Rattle.feed_header.proofs.feed_comment.Goals as goal

-- an end of the packet that was not found is none
goes_on : (k : Core) (carry : Bytes) (h : PageHeader) (l body : Bytes) → total l ≡ length body → lacing_found k h carry l body ≡ found (Ok tt)
    → k.phase ≡ Comment → is_ends (shape_of l) ≡ false → shape_of l ≡ GoesOn
goes_on k carry h l body sums clear is e = goes_on-is (shape_of l) (piece-shape k carry h l body sums clear is) e

pub check_lacing-requires : goal.check_lacing-requires
check_lacing-requires c =
    record { inside = rw c.requires.comment; shape_is = c.shape_of-shape.ensures }

pub longer-left-requires : goal.longer-left-requires
longer-left-requires c =
    let a = c.args in
    piece-within a.core a.carry.now a.h a.lacing.now a.body.now c.requires.sums (sym (c.in_ok-check_lacing.ensures a.carry.now a.body.now))
    c.requires.comment

pub returns-then-not-is_ends : goal.returns-then-not-is_ends
returns-then-not-is_ends c =
    λ crc m.
    let a = c.args in
    let clear = sym (c.in_ok-check_lacing.ensures a.carry.now a.body.now) in
    let ends = c.is_ends.ensures ∙ ap is_ends c.shape_of-shape.ensures in
    rw (c.next_tally-after.ensures, c.no_counts-counts.ensures, c.next_core-core.ensures, c.longer-left.ensures)
    (earlier-accepted crc a.core a.tally a.carry.now m a.h a.lacing.now a.body.now c.requires.comment c.requires.sums
    clear (goes_on a.core a.carry.now a.h a.lacing.now a.body.now c.requires.sums clear c.requires.comment (failed ends c.if-not-is_ends.true)) c.requires.room c.append.ensures)

pub returns : goal.returns
returns c =
    λ crc m.
    let a = c.args in
    let clear = sym (c.in_ok-check_lacing.ensures a.carry.now a.body.now) in
    let ends = c.is_ends.ensures ∙ ap is_ends c.shape_of-shape.ensures in
    rw (c.next_tally-after-2.ensures, c.no_counts-counts-2.ensures, c.next_core-core-2.ensures)
    (last-accepted crc a.core a.tally a.carry.now m a.h a.lacing.now a.body.now c.requires.comment c.requires.sums
    clear (ends_is _ (held ends c.if-not-is_ends.false)) c.requires.room c.append.ensures
    (c.held_in.ensures ∙ ap held_of c.longer-left.ensures) c.part_of.ensures
    c.in_ok-read_tags.ensures)

pub returns-in_err-read_tags : goal.returns-in_err-read_tags
returns-in_err-read_tags c =
    let p = err_from_is_err_and c.from_residual-in_err-read_tags.result c.from_residual-in_err-read_tags.ensures.1 in
    rw (p.1, p.2)
    (λ crc m.
    let a = c.args in
    let clear = sym (c.in_ok-check_lacing.ensures a.carry.now a.body.now) in
    let ends = c.is_ends.ensures ∙ ap is_ends c.shape_of-shape.ensures in
    last-refused crc a.core a.tally a.carry.now m a.h a.lacing.now a.body.now c.requires.comment c.requires.sums
    clear (ends_is _ (held ends c.if-not-is_ends.false)) c.requires.room c.append.ensures
    (c.held_in.ensures ∙ ap held_of c.longer-left.ensures) c.part_of.ensures
    _ c.in_err-read_tags.ensures)

pub returns-in_err-check_lacing : goal.returns-in_err-check_lacing
returns-in_err-check_lacing c =
    let p = err_from_is_err_and c.from_residual.result c.from_residual.ensures.1 in
    rw (p.1, p.2)
    (λ crc m.
    let a = c.args in
    comment_below_12 crc a.core a.tally a.carry.now m a.h a.lacing.now a.body.now c.requires.comment _
    (sym (c.in_err-check_lacing.ensures a.carry.now a.body.now)))
