-- `head_reader::head_of` meets its contract: field by field. Assumes nothing.
use mathlib.Core.Path.{◌≡◌, ap, ◌∙◌}
use borrow.Author.Rules.{rules}
use mir.Syntax.{w16}
use mir.Val.{to_z, of_z}
use Rattle.octets.specs.Numbers.{number}
use Rattle.head_fields.specs.Layout.{gain_place}
use Rattle.head_reader.specs.Fields.{head_of}
use Rattle.head_reader.proofs.head_of.Goals as goal

pub returns : goal.returns
unfolding head_of
returns c =
    let z = c.signed16-gain.result in
    let kept : to_z w16 (of_z w16 z) ≡ z = search rules in
    let gain : to_z w16 (of_z w16 z) ≡ to_z w16 (number 2 c.args.b.now gain_place) =
    (kept ∙ c.signed16-gain.ensures ∙ ap (to_z w16) c.number16.ensures) in
    rw (
      c.byte_at.ensures,
      c.byte_at-2.ensures,
      c.number16-2.ensures,
      c.number32.ensures,
      gain,
      c.byte_at-3.ensures,
      c.streams_of.ensures,
      c.coupled_of.ensures,
      c.mapping_of-mapping.ensures,
    )
