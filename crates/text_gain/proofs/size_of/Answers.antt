-- `text_gain::size_of` meets its contract. Assumes nothing.
use mathlib.Core.Path.{ap, ◌∙◌}
use native.Mathlib.Omega.{arith}
use mir.Syntax.{w16}
use mir.Val.{of_z}
use mir.Facts.{to_z-of_z}
use Rattle.text_gain.proofs.Texts.{plus, minus}
use Rattle.text_gain.proofs.size_of.Goals as goal

pub returns-then-bits-lt32768 : goal.returns-then-bits-lt32768
returns-then-bits-lt32768 c =
    let bits = c.unsigned16-bits in
    record {
      same = (plus c.args.g bits.result (bits.ensures ∙ ap (of_z w16) (to_z-of_z c.ranges.g)) c.ranges.g.sfits c.if-bits-lt32768.true).1;
      most = omega arith;
    }

pub returns-else-bits-lt32768 : goal.returns-else-bits-lt32768
returns-else-bits-lt32768 c =
    let bits = c.unsigned16-bits in
    record {
      same = (minus c.args.g bits.result (bits.ensures ∙ ap (of_z w16) (to_z-of_z c.ranges.g)) c.ranges.g.sfits c.if-bits-lt32768.false).1;
      most = omega arith;
    }
