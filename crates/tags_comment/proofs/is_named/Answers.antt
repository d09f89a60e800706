-- `tags_comment::is_named` meets its contract. Assumes nothing.
use mathlib.Core.Path.{sym, ap, ◌∙◌}
use Rattle.tags_comment.specs.Names.{same_name}
use Rattle.tags_comment.proofs.Names.{nameless, named}
use Rattle.tags_comment.proofs.is_named.Goals as goal

pub returns-then-place-c : goal.returns-then-place-c
returns-then-place-c c =
    let place = c.equals_place-place in
    let a = c.args in
    sym (nameless a.c.now place.result place.ensures a.name.now c.if-place-c.true)

pub returns : goal.returns
returns c =
    let place = c.equals_place-place in
    let a = c.args in
    c.same_name.ensures ∙ ap (same_name a.name.now) c.part_of.ensures
    ∙ sym (named a.c.now place.result place.ensures a.name.now c.if-place-c.false)
