-- The first fall from where a turn begins is the first of all. Assumes nothing.
use mathlib.Core.Path.{sym, ◌∙◌}
use native.Mathlib.Omega.{arith}
use Rattle.index_columns.proofs.Falling.{all, here, behind, nowhere}
use Rattle.index_columns.proofs.first_fall.Goals as goal

pub loop-i-init : goal.loop-i-init
loop-i-init c = all c.args.granules.now

pub returns-then-g-before : goal.returns-then-g-before
returns-then-g-before c =
    sym (here c.args.granules.now c.loop-i.i
    c.loop-i.before (omega arith) (omega arith))
    ∙ c.loop-i.invariant

pub loop-i-preserved : goal.loop-i-preserved
loop-i-preserved c =
    sym (behind c.args.granules.now c.loop-i.i
    c.loop-i.before (omega arith) (omega arith))
    ∙ c.loop-i.invariant

pub returns : goal.returns
returns c =
    sym (nowhere c.args.granules.now c.loop-i.i c.loop-i.before (omega arith))
    ∙ c.loop-i.invariant
