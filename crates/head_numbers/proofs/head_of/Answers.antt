-- `head_numbers::head_of` meets its contract. Assumes nothing.
use mathlib.Core.Path.{◌≡◌}
use borrow.Author.Rules.{rules}
use mir.Syntax.{w16}
use mir.Val.{to_z, of_z}
use Rattle.head_numbers.specs.Numbers.{head_from}
use Rattle.head_numbers.proofs.head_of.Goals as goal

pub returns : goal.returns
unfolding head_from
returns c =
    let call = c.signed16-gain in
    let kept : to_z w16 (of_z w16 call.result) ≡ call.result = search rules in
    rw (kept, call.ensures)
