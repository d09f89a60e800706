-- All steps from where a turn begins end where all steps of the search end. Assumes nothing.
use Rattle.std.proofs.Common.{◌≡◌, refl, sym, ◌∙◌, get_or, rules}
use Rattle.index_search.proofs.Steps.{less, finish_go, finish-done}
use Rattle.index_columns.proofs.run.Goals as goal

pub loop-t-init : goal.loop-t-init
loop-t-init c = refl

pub loop-t-smaller : goal.loop-t-smaller
loop-t-smaller c = rw c.step-t.ensures (less _ _ c.loop-t-test.true)

pub loop-t-preserved : goal.loop-t-preserved
loop-t-preserved c =
    let g : c.unwrap_or-g.result ≡ get_or c.args.granules.now c.place-at.result 0 = search rules in
    rw (c.step-t.ensures, g, c.place-at.ensures)
    (sym (finish_go _ _ c.loop-t-test.true) ∙ c.loop-t.invariant)

pub returns : goal.returns
returns c = sym (finish-done _ _ c.loop-t-test.false) ∙ c.loop-t.invariant
