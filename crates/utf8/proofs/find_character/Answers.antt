-- `utf8::find_character` meets its contract: what is at the place decides, and the number is worked out again. Assumes nothing.
use mathlib.Core.Path.{sym, ◌∙◌}
use native.Mathlib.Omega.{arith}
use lib.ListN.{get_or}
use Rattle.utf8.proofs.Characters.{is_right, length_most, past_end, none_here, some-here}
use Rattle.utf8.proofs.find_character.Goals as goal

pub returns-then-at-s : goal.returns-then-at-s
returns-then-at-s c =
    let a = c.args in
    c.no_character.ensures ∙ sym (past_end a.s.now a.at c.if-at-s.true)

pub returns-then-size-eq0 : goal.returns-then-size-eq0
returns-then-size-eq0 c =
    let a = c.args in
    c.no_character-then-size-eq0.ensures
    ∙ sym (none_here a.s.now a.at c.character_at-size.result c.if-at-s.false c.character_at-size.ensures c.if-size-eq0.true)

pub lead_bits-bits-requires : goal.lead_bits-bits-requires
lead_bits-bits-requires c =
    let a = c.args in
    let right = is_right a.s.now a.at c.character_at-size.result c.if-at-s.false c.character_at-size.ensures c.if-size-eq0.false in
    record { same = right.1; some = omega arith }

pub number_with-requires : goal.number_with-requires
number_with-requires c =
    let a = c.args in
    let right =
    (is_right a.s.now a.at c.character_at-size.result c.if-at-s.false c.character_at-size.ensures c.if-size-eq0.false) in
    omega (arith, right.1, length_most (get_or a.s.now a.at 0))

pub returns : goal.returns
returns c =
    let a = c.args in
    some-here a.s.now a.at c.character_at-size.result c.if-at-s.false c.character_at-size.ensures c.if-size-eq0.false
    c.number_with.result c.lead_bits-bits.result c.lead_bits-bits.ensures c.number_with.ensures
