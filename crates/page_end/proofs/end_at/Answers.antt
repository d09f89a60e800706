-- `page_end::end_at` meets its contract. Assumes nothing.
use borrow.Author.Rules.{rules}
use borrow.Author.Tests.{lt-ltb, le-ltb}
use Rattle.page_end.specs.End.{end_at}
use Rattle.page_end.proofs.end_at.Goals as goal

pub returns-then-end-buffer : goal.returns-then-end-buffer
unfolding end_at
returns-then-end-buffer c =
    rw (← c.page_extent.ensures, c.in-Ends.is, lt-ltb _ _ c.if-end-buffer.true)

pub returns-else-end-buffer : goal.returns-else-end-buffer
unfolding end_at
returns-else-end-buffer c =
    rw (← c.page_extent.ensures, c.in-Ends.is, le-ltb _ _ c.if-end-buffer.false)

pub returns-in-Short : goal.returns-in-Short
unfolding end_at
returns-in-Short c = rw (← c.page_extent.ensures, c.in-Short.is)

pub returns-in-NoPage : goal.returns-in-NoPage
unfolding end_at
returns-in-NoPage c = rw (← c.page_extent.ensures, c.in-NoPage.is)
