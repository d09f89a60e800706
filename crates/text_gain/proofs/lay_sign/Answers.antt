-- `text_gain::lay_sign` meets its contract. Assumes nothing.
use mathlib.Core.Path.{ap, ◌∙◌}
use mir.Syntax.{w16}
use mir.Val.{of_z}
use mir.Facts.{to_z-of_z}
use Rattle.text_gain.proofs.Texts.{plus, minus, no_sign, a_sign}
use Rattle.text_gain.proofs.lay_sign.Goals as goal

pub returns-then-unsigned16-lt32768 : goal.returns-then-unsigned16-lt32768
returns-then-unsigned16-lt32768 c =
    let bits = c.unsigned16 in
    let sign = plus c.args.g bits.result (bits.ensures ∙ ap (of_z w16) (to_z-of_z c.ranges.g)) c.ranges.g.sfits c.if-unsigned16-lt32768.true in
    no_sign c.args.g c.args.out.now c.args.at sign.0 c.requires

pub returns : goal.returns
returns c =
    let bits = c.unsigned16 in
    let sign = minus c.args.g bits.result (bits.ensures ∙ ap (of_z w16) (to_z-of_z c.ranges.g)) c.ranges.g.sfits c.if-unsigned16-lt32768.false in
    a_sign c.args.g c.args.out.now c.args.at sign.0 c.requires
