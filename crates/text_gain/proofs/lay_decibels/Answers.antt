-- `text_gain::lay_decibels` meets its contract: five parts one after the other. Assumes nothing.
use mathlib.Core.Path.{◌≡◌, ap, ◌∙◌}
use lib.IntN.{nat_abs}
use mir.Facts.{to_z-of_z}
use Rattle.text_put.specs.Writing.{Laid}
use Rattle.text_gain.specs.Numbers.{sign_of}
use Rattle.text_gain.proofs.Texts.{same_sign, room-rest, laid-decibels}
use Rattle.text_gain.proofs.lay_decibels.Goals as goal

pub lay_eight-unit-requires : goal.lay_eight-unit-requires
lay_eight-unit-requires c =
    -- the size
    let sized : c.size_of-size.result ≡ nat_abs c.args.g = c.size_of-size.ensures.same ∙ ap nat_abs (to_z-of_z c.ranges.g) in
    -- the sign is written
    let signed : let a = c.args in Laid a.out.now a.at (sign_of a.g) c.lay_sign-whole.result c.lay_sign-whole.new.out = same_sign (to_z-of_z c.ranges.g) c.lay_sign-whole.ensures in
    room-rest c.args.out.now c.args.at c.args.g c.size_of-size.result sized c.size_of-size.ensures.most signed c.requires
    c.put_decimal-point.ensures c.put_bytes-rest.ensures

pub returns : goal.returns
returns c =
    let sized : c.size_of-size.result ≡ nat_abs c.args.g = c.size_of-size.ensures.same ∙ ap nat_abs (to_z-of_z c.ranges.g) in
    let signed : let a = c.args in Laid a.out.now a.at (sign_of a.g) c.lay_sign-whole.result c.lay_sign-whole.new.out = same_sign (to_z-of_z c.ranges.g) c.lay_sign-whole.ensures in
    laid-decibels c.args.out.now c.args.at c.args.g c.size_of-size.result sized c.size_of-size.ensures.most signed c.requires
    c.put_decimal-point.ensures c.put_bytes-rest.ensures c.lay_eight-unit.ensures c.put_bytes.ensures
