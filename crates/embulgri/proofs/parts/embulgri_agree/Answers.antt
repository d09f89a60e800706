-- `embulgri_agree` meets its contract. Assumes nothing.
use borrow.Author.Rules.{rules}
use Rattle.embulgri.proofs.parts.embulgri_agree.Goals as goal

pub returns-then-agree : goal.returns-then-agree
returns-then-agree c = rw (← c.agree.ensures, c.if-agree.true)

pub returns : goal.returns
returns c = rw (← c.agree.ensures, c.if-agree.false)
