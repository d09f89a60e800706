-- `head_numbers::numbers_of` meets its contract. Assumes nothing.
use mathlib.Core.Path.{◌≡◌, ap, ◌∙◌}
use borrow.Author.Rules.{rules}
use mir.Syntax.{w16}
use mir.Val.{to_z, of_z}
use Rattle.head_numbers.proofs.numbers_of.Goals as goal

pub returns : goal.returns
returns c =
    -- the fifth of the nine fields
    let gain = c.well_formed.0.1.1.1.1.1.1.0 in
    let h = c.args.h in
    let kept : to_z w16 (of_z w16 h.gain) ≡ h.gain = search rules in
    rw (c.unsigned16.ensures ∙ ap (of_z w16) kept)
