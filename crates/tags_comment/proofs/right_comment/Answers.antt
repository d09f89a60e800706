-- `tags_comment::right_comment` meets its contract. Assumes nothing.
use mathlib.Core.Path.{◌≡◌, sym, ap, ◌∙◌}
use mathlib.Core.Bool.{true}
use Rattle.octets.proofs.Tests.{failed, held}
use Rattle.utf8.specs.Characters.{utf8}
use Rattle.tags_comment.specs.Names.{right_name}
use Rattle.tags_comment.proofs.Names.{not-utf8, without_name, name_decides}
use Rattle.tags_comment.proofs.right_comment.Goals as goal

pub returns-then-not-is_utf8 : goal.returns-then-not-is_utf8
returns-then-not-is_utf8 c = sym (not-utf8 c.args.c.now (failed c.is_utf8.ensures c.if-not-is_utf8.true))

pub returns-then-place-c : goal.returns-then-place-c
returns-then-place-c c =
    let text : utf8 c.args.c.now ≡ true = held c.is_utf8.ensures c.if-not-is_utf8.false in
    let place = c.equals_place-place in
    sym (without_name c.args.c.now place.result place.ensures text c.if-place-c.true)

pub returns : goal.returns
returns c =
    let text : utf8 c.args.c.now ≡ true = held c.is_utf8.ensures c.if-not-is_utf8.false in
    let place = c.equals_place-place in
    c.all_within.ensures ∙ ap right_name c.part_of.ensures
    ∙ sym (name_decides c.args.c.now place.result place.ensures text c.if-place-c.false)
