-- `tags_layout::fits_at` meets its contract. Assumes nothing.
use mathlib.Core.Path.{sym}
use native.Mathlib.Omega.{arith}
use Rattle.tags_layout.proofs.Fitting.{no_length, has-length}
use Rattle.tags_layout.proofs.fits_at.Goals as goal

pub returns-then-b-at : goal.returns-then-b-at
returns-then-b-at c = let a = c.args in sym (no_length a.b.now a.at (omega arith))

pub returns-then-b-at-lt4 : goal.returns-then-b-at-lt4
returns-then-b-at-lt4 c = let a = c.args in sym (no_length a.b.now a.at (omega arith))

pub returns : goal.returns
returns c =
    let a = c.args in
    has-length a.b.now a.at c.number32.result (omega arith) c.number32.ensures
