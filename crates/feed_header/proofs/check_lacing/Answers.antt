-- `feed_header::check_lacing` meets its contract: `HeaderPages` has its ways. Assumes nothing.
use mathlib.Core.Path.{◌≡◌, sym, ap, ◌∙◌}
use mathlib.Core.Bool.{Bool}
use Rattle.granule.specs.Judging.{granule_wrong}
use Rattle.stream.specs.Page.{page_with}
use Rattle.stream.specs.Shape.{shape_of, is_ends, wrong_shape}
use Rattle.stream.specs.Feed.{view}
use Rattle.feed_header.proofs.HeaderPages.{long-page, wrong-page, piece-page}
use Rattle.feed_header.proofs.check_lacing.Goals as goal

pub returns-then-is_long : goal.returns-then-is_long
returns-then-is_long c =
    λ carry body.
    let a = c.args in
    sym (long-page (view a.core carry) (page_with a.h a.lacing.now body) (sym (c.is_long.ensures carry) ∙ c.if-is_long.true))

pub returns-then-wrong_shape : goal.returns-then-wrong_shape
returns-then-wrong_shape c =
    λ carry body.
    let a = c.args in
    sym (wrong-page (view a.core carry) (page_with a.h a.lacing.now body) (sym (c.is_long.ensures carry) ∙ c.if-is_long.false)
    (ap (wrong_shape a.core.phase) (sym c.requires.shape_is) ∙ sym c.wrong_shape.ensures ∙ c.if-wrong_shape.true))

pub returns-then-wrong_granule : goal.returns-then-wrong_granule
returns-then-wrong_granule c =
    λ carry body.
    let a = c.args in
    -- 11 as the rules name it
    let judged : c.wrong_granule.result ≡ granule_wrong 0 (is_ends (shape_of a.lacing.now)) a.h.granule =
    c.wrong_granule.ensures
    ∙ ap (λ (b : Bool). granule_wrong 0 b a.h.granule) (c.is_ends.ensures ∙ ap is_ends c.requires.shape_is) in
    sym (piece-page (view a.core carry) (page_with a.h a.lacing.now body) (sym (c.is_long.ensures carry) ∙ c.if-is_long.false)
    c.requires.inside (ap (wrong_shape a.core.phase) (sym c.requires.shape_is) ∙ sym c.wrong_shape.ensures ∙ c.if-wrong_shape.false)
    ∙ rw (← judged, c.if-wrong_granule.true))

pub returns : goal.returns
returns c =
    λ carry body.
    let a = c.args in
    -- 11 as the rules name it
    let judged : c.wrong_granule.result ≡ granule_wrong 0 (is_ends (shape_of a.lacing.now)) a.h.granule =
    c.wrong_granule.ensures
    ∙ ap (λ (b : Bool). granule_wrong 0 b a.h.granule) (c.is_ends.ensures ∙ ap is_ends c.requires.shape_is) in
    sym (piece-page (view a.core carry) (page_with a.h a.lacing.now body) (sym (c.is_long.ensures carry) ∙ c.if-is_long.false)
    c.requires.inside (ap (wrong_shape a.core.phase) (sym c.requires.shape_is) ∙ sym c.wrong_shape.ensures ∙ c.if-wrong_shape.false)
    ∙ rw (← judged, c.if-wrong_granule.false))
