-- `tags_replaygain::is_replaygain` meets its contract. Assumes nothing.
use mathlib.Core.Path.{sym, ◌∙◌}
use Rattle.tags_replaygain.proofs.Names.{is-track_gain, is-track_peak, is-album_gain, last_decides}
use Rattle.tags_replaygain.proofs.is_replaygain.Goals as goal

pub returns-then-is_named : goal.returns-then-is_named
returns-then-is_named c =
    sym (is-track_gain c.args.c.now (sym c.is_named.ensures ∙ c.if-is_named.true))

pub returns-then-is_named-2 : goal.returns-then-is_named-2
returns-then-is_named-2 c =
    sym
    (is-track_peak c.args.c.now (sym c.is_named.ensures ∙ c.if-is_named.false)
    (sym c.is_named-2.ensures ∙ c.if-is_named-2.true))

pub returns-then-is_named-3 : goal.returns-then-is_named-3
returns-then-is_named-3 c =
    sym
    (is-album_gain c.args.c.now (sym c.is_named.ensures ∙ c.if-is_named.false)
    (sym c.is_named-2.ensures ∙ c.if-is_named-2.false) (sym c.is_named-3.ensures ∙ c.if-is_named-3.true))

pub returns : goal.returns
returns c =
    c.is_named-4.ensures
    ∙ sym
    (last_decides c.args.c.now (sym c.is_named.ensures ∙ c.if-is_named.false)
    (sym c.is_named-2.ensures ∙ c.if-is_named-2.false) (sym c.is_named-3.ensures ∙ c.if-is_named-3.false))
