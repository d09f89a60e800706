-- `granule::kept` meets its contract. Assumes nothing.
use mathlib.Core.Path.{sym}
use Rattle.granule.proofs.Counting.{closed_forms}
use Rattle.granule.proofs.kept.Goals as goal

pub returns-then-last : goal.returns-then-last
returns-then-last c =
    let a = c.args in
    rw (c.saturating_sub-then-last.ensures, c.min.ensures, c.saturating_sub.ensures, c.min-low.ensures, c.if-last.true)
    (sym (closed_forms a.skip a.g a.at a.samples).cut)

pub returns : goal.returns
returns c =
    let a = c.args in
    rw (c.saturating_sub-2.ensures, c.min-low.ensures, c.if-last.false)
    (sym (closed_forms a.skip a.g a.at a.samples).whole)
