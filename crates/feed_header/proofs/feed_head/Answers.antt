-- `feed_header::feed_head` meets its contract: `HeadPage` has its ways. Assumes nothing.
use Rattle.std.specs.Prelude.{⊤, Result}
use Rattle.refusal.specs.declared.Refusal.{Refusal}
use mathlib.Core.Path.{sym, ap, ◌∙◌}
use Rattle.std.proofs.lemmas.Result.{err_from_is_err_and}
use Rattle.head_reader.specs.Reading.{told_by}
use Rattle.feed_header.proofs.HeadPage.{head_below_12, head-refused, head-accepted}
use Rattle.feed_header.proofs.feed_head.Goals as goal

pub check_lacing-requires : goal.check_lacing-requires
check_lacing-requires c =
    record { inside = rw c.requires.first; shape_is = c.shape_of-shape.ensures }

pub returns : goal.returns
returns c =
    λ crc m.
    let a = c.args in
    rw (c.next_tally-after.ensures, c.no_counts-counts.ensures, c.next_core-core.ensures)
    (head-accepted crc a.core a.tally m a.h a.lacing.now a.body.now c.requires.first c.requires.none_left c.requires.sums
    (sym (c.in_ok-check_lacing.ensures m.carry a.body.now)) c.read_head-read.result.head
    (sym c.read_head-read.ensures.told ∙ ap (λ (v : Result ⊤ Refusal). told_by v c.read_head-read.result.head) c.in_ok-verdict.was))

pub returns-in_err-verdict : goal.returns-in_err-verdict
returns-in_err-verdict c =
    let p = err_from_is_err_and c.from_residual-in_err-verdict.result c.from_residual-in_err-verdict.ensures.1 in
    rw (p.1, p.2)
    (λ crc m.
    let a = c.args in
    head-refused crc a.core a.tally m a.h a.lacing.now a.body.now c.requires.first c.requires.none_left c.requires.sums
    (sym (c.in_ok-check_lacing.ensures m.carry a.body.now)) _
    (sym c.read_head-read.ensures.told ∙ ap (λ (v : Result ⊤ Refusal). told_by v c.read_head-read.result.head) c.in_err-verdict.was))

pub returns-in_err-check_lacing : goal.returns-in_err-check_lacing
returns-in_err-check_lacing c =
    let p = err_from_is_err_and c.from_residual.result c.from_residual.ensures.1 in
    rw (p.1, p.2)
    (λ crc m.
    let a = c.args in
    head_below_12 crc a.core a.tally m a.h a.lacing.now a.body.now c.requires.first c.requires.none_left _
    (sym (c.in_err-check_lacing.ensures m.carry a.body.now)))
