-- `feed_pages::keep` meets its contract. Assumes nothing.
use borrow.Author.Tests.{eq-eqb, ne_eqb}
use Rattle.feed_pages.specs.State.{numbers_reached}
use Rattle.feed_pages.proofs.keep.Goals as goal

pub returns-then-pages-eq0 : goal.returns-then-pages-eq0
unfolding numbers_reached
returns-then-pages-eq0 c = (rw (eq-eqb _ _ c.if-pages-eq0.true), λ h. h c.if-pages-eq0.true)

pub returns : goal.returns
unfolding numbers_reached
returns c = (rw (ne_eqb _ _ c.if-pages-eq0.false) c.state_of.ensures.numbers, λ h. c.state_of.ensures.back)
