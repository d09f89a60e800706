-- `tags_reader::step` meets its contract. Assumes nothing.
use mathlib.Core.Path.{sym}
use Prim.Native.Nat.{◌≤◌}
use borrow.Author.Rules.{rules}
use lib.ListN.{length}
use Rattle.octets.proofs.Tests.{failed, held}
use Rattle.tags_layout.specs.Layout.{next_place}
use Rattle.tags_layout.proofs.Fitting.{inside}
use Rattle.tags_reader.proofs.Walking.{no_text, stops, goes_on}
use Rattle.tags_reader.proofs.step.Goals as goal

pub returns-then-not-fits_at : goal.returns-then-not-fits_at
returns-then-not-fits_at c =
    let a = c.args in
    sym (no_text a.b.now a.walk (failed c.fits_at.ensures c.if-not-fits_at.true))

pub overflow_add-start : goal.overflow_add-start
overflow_add-start c =
    -- the text is inside, where the test was held
    let within : next_place c.args.b.now c.args.walk.at ≤ length c.args.b.now = let a = c.args in inside a.b.now a.walk.at (held c.fits_at.ensures c.if-not-fits_at.false) in
    let w = within in search rules

pub overflow_add-next : goal.overflow_add-next
overflow_add-next c =
    let within : next_place c.args.b.now c.args.walk.at ≤ length c.args.b.now = let a = c.args in inside a.b.now a.walk.at (held c.fits_at.ensures c.if-not-fits_at.false) in
    let w = within in search rules

pub returns-in_err-gains : goal.returns-in_err-gains
returns-in_err-gains c =
    let a = c.args in
    rw c.from_residual.ensures
    (sym
    (stops a.b.now a.walk c.number32-size.result c.judge.result
    (held c.fits_at.ensures c.if-not-fits_at.false) c.number32-size.ensures
    (rw c.part_of.ensures at c.judge.ensures) c.in_err-gains.was))

pub returns : goal.returns
returns c =
    let known = c.in_ok-gains in
    let a = c.args in
    sym
    (goes_on a.b.now a.walk c.number32-size.result c.judge.result
    (held c.fits_at.ensures c.if-not-fits_at.false) c.number32-size.ensures
    (rw c.part_of.ensures at c.judge.ensures) known.gains known.was)
