-- `tags_layout::find_text` meets its contract. Assumes nothing.
use mathlib.Core.Path.{sym}
use borrow.Author.Rules.{rules}
use Prim.Native.Nat.{◌≤◌}
use lib.ListN.{length}
use Rattle.octets.proofs.Tests.{failed, held}
use Rattle.tags_layout.specs.Layout.{next_place}
use Rattle.tags_layout.proofs.Fitting.{inside, no_part, a_part}
use Rattle.tags_layout.proofs.find_text.Goals as goal

pub returns-then-not-fits_at : goal.returns-then-not-fits_at
returns-then-not-fits_at c =
    let a = c.args in sym (no_part a.b.now a.at (failed c.fits_at.ensures c.if-not-fits_at.true))

pub overflow_add-result : goal.overflow_add-result
overflow_add-result c =
    -- the text is inside, where the test was held
    let within : next_place c.args.b.now c.args.at ≤ length c.args.b.now = let a = c.args in inside a.b.now a.at (held c.fits_at.ensures c.if-not-fits_at.false) in
    let w = within in search rules

pub returns : goal.returns
returns c =
    let a = c.args in
    sym (a_part a.b.now a.at c.number32-size.result (held c.fits_at.ensures c.if-not-fits_at.false) c.number32-size.ensures)
