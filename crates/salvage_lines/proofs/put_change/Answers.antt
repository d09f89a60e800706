-- `salvage_lines::put_change` meets its contract: the word is the one of its number. Assumes nothing.
use borrow.Author.Tests.{eq-eqb, ne_eqb}
use Rattle.salvage_lines.specs.Lines.{change_line}
use Rattle.salvage_lines.proofs.put_change.Goals as goal

pub returns-then-what-eq0 : goal.returns-then-what-eq0
unfolding change_line
returns-then-what-eq0 c =
    rw (eq-eqb _ _ c.if-what-eq0.true) c.put_named.ensures

pub returns-then-what-eq1 : goal.returns-then-what-eq1
unfolding change_line
returns-then-what-eq1 c =
    rw (ne_eqb _ _ c.if-what-eq0.false, eq-eqb _ _ c.if-what-eq1.true) c.put_named-then-what-eq1.ensures

pub returns-then-what-eq2 : goal.returns-then-what-eq2
unfolding change_line
returns-then-what-eq2 c =
    rw (ne_eqb _ _ c.if-what-eq0.false, ne_eqb _ _ c.if-what-eq1.false, eq-eqb _ _ c.if-what-eq2.true)
    c.put_named-then-what-eq2.ensures

pub returns : goal.returns
unfolding change_line
returns c =
    rw (ne_eqb _ _ c.if-what-eq0.false, ne_eqb _ _ c.if-what-eq1.false, ne_eqb _ _ c.if-what-eq2.false)
    c.put_named-2.ensures
