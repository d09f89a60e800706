-- `text_gain::lay_signed` meets its contract: the digits after the sign. Assumes nothing.
use mathlib.Core.Path.{◌≡◌, ap, ◌∙◌}
use lib.IntN.{nat_abs}
use mir.Facts.{to_z-of_z}
use Rattle.text_put.specs.Writing.{Laid}
use Rattle.text_gain.specs.Numbers.{sign_of}
use Rattle.text_gain.proofs.Texts.{same_sign, laid_signed}
use Rattle.text_gain.proofs.lay_signed.Goals as goal

pub returns : goal.returns
returns c =
    -- the sign is written
    let signed : let a = c.args in Laid a.out.now 0 (sign_of a.g) c.lay_sign-next.result c.lay_sign-next.new.out = same_sign (to_z-of_z c.ranges.g) c.lay_sign-next.ensures in
    -- the size
    let sized : c.size_of.result ≡ nat_abs c.args.g = c.size_of.ensures.same ∙ ap nat_abs (to_z-of_z c.ranges.g) in
    laid_signed c.args.out.now 0 c.args.g c.size_of.result sized c.size_of.ensures.most
    signed c.requires c.put_decimal.ensures
