-- `tags_comment::digits_of` meets its contract: a sign in front is left out. Assumes nothing.
use mathlib.Core.Path.{◌∙◌}
use Rattle.octets.proofs.Tests.{equals, unequal}
use Rattle.tags_comment.proofs.Gain.{all_after}
use Rattle.tags_comment.proofs.digits_of.Goals as goal

pub returns-then-first-eq43 : goal.returns-then-first-eq43
returns-then-first-eq43 c =
    let t = c.args.t.now in
    rw (equals c.byte_at-first.ensures c.if-first-eq43.true) (c.part_of.ensures ∙ all_after 1 t)

pub returns-then-first-eq45 : goal.returns-then-first-eq45
returns-then-first-eq45 c =
    let t = c.args.t.now in
    rw (unequal c.byte_at-first.ensures c.if-first-eq43.false, equals c.byte_at-first.ensures c.if-first-eq45.true) (c.part_of-then-first-eq45.ensures ∙ all_after 1 t)

pub returns : goal.returns
returns c =
    let t = c.args.t.now in
    rw (unequal c.byte_at-first.ensures c.if-first-eq43.false, unequal c.byte_at-first.ensures c.if-first-eq45.false) (c.part_of-2.ensures ∙ all_after 0 t)
