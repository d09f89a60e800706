-- `head_matrix::entry_at` meets its contract. Assumes nothing.
use mathlib.Core.Path.{◌≡◌, sym, ap, ◌∙◌}
use borrow.Author.Rules.{rules}
use native.Mathlib.Omega.{arith}
use mir.Syntax.{w16}
use mir.Val.{to_z, of_z}
use Rattle.refusal.specs.Told.{gives}
use Rattle.head_matrix.specs.Matrix.{entry_of}
use Rattle.head_matrix.proofs.Answers.{no_entry, some-entry}
use Rattle.head_matrix.proofs.entry_at.Goals as goal

pub returns-then-past : goal.returns-then-past
returns-then-past c = let a = c.args in sym (no_entry a.m.now a.i c.if-past.true)

pub overflow_mul-i : goal.overflow_mul-i
overflow_mul-i c = omega arith

pub returns : goal.returns
returns c =
    let a = c.args in
    let z = c.signed16.result in
    let kept : to_z w16 (of_z w16 z) ≡ z = search rules in
    let entry : to_z w16 (of_z w16 z) ≡ entry_of a.m.now a.i =
    (kept ∙ c.signed16.ensures ∙ ap (to_z w16) c.number16.ensures) in
    ap gives entry ∙ sym (some-entry a.m.now a.i c.if-past.false)
