-- `tags_comment::comment_gain` meets its contract. Assumes nothing.
use mathlib.Core.Path.{◌≡◌, sym, ap, ◌∙◌}
use Prim.Native.Nat.{◌+◌}
use lib.IntN.{ℤ}
use borrow.Author.Rules.{rules}
use lib.ListN.{drop}
use mir.Syntax.{w16}
use mir.Val.{to_z, of_z}
use Rattle.octets.proofs.Tests.{failed, held}
use Rattle.refusal.specs.Told.{gives}
use Rattle.tags_comment.proofs.Gain.{all_after, without-equals, no_gain, gain-there}
use Rattle.tags_comment.proofs.comment_gain.Goals as goal

pub returns-then-place-c : goal.returns-then-place-c
returns-then-place-c c =
    let place = c.equals_place-place in
    sym (without-equals c.args.c.now place.result place.ensures c.if-place-c.true)

pub returns-then-not-right_gain : goal.returns-then-not-right_gain
returns-then-not-right_gain c =
    let value : c.part_of-value.result.now ≡ drop (c.equals_place-place.result + 1) c.args.c.now = c.part_of-value.ensures ∙ all_after (c.equals_place-place.result + 1) c.args.c.now in
    let place = c.equals_place-place in
    sym
    (no_gain c.args.c.now place.result place.ensures c.part_of-value.result.now c.if-place-c.false value
    (failed c.right_gain.ensures c.if-not-right_gain.true))

pub gain_bits-requires : goal.gain_bits-requires
gain_bits-requires c = held c.right_gain.ensures c.if-not-right_gain.false

pub returns : goal.returns
returns c =
    let value : c.part_of-value.result.now ≡ drop (c.equals_place-place.result + 1) c.args.c.now = c.part_of-value.ensures ∙ all_after (c.equals_place-place.result + 1) c.args.c.now in
    let place = c.equals_place-place in
    let kept : to_z w16 (of_z w16 c.signed16.result) ≡ c.signed16.result = search rules in
    ap (λ (g : ℤ). gives g) (kept ∙ c.signed16.ensures ∙ c.gain_bits.ensures)
    ∙ sym
    (gain-there c.args.c.now place.result place.ensures c.part_of-value.result.now c.if-place-c.false value
    (held c.right_gain.ensures c.if-not-right_gain.false))
