-- `crop_page::may_begin` meets its contract. Assumes nothing.
use Rattle.std.proofs.Common.{sym, ◌∙◌, rules}
use borrow.Author.Tests.{not-true, not-false}
use Rattle.crop_page.proofs.Pages.{if_continued, if_none_ends, if_one_ends}
use Rattle.crop_page.proofs.may_begin.Goals as goal

pub returns-then-is_continued : goal.returns-then-is_continued
returns-then-is_continued c =
    let p = c.args.page.now in
    if_continued p (rw c.header_of-h.ensures at (sym c.is_continued.ensures ∙ c.if-is_continued.true))

pub returns-then-not-has_end : goal.returns-then-not-has_end
returns-then-not-has_end c =
    let p = c.args.page.now in
    if_none_ends p (rw c.header_of-h.ensures at (sym c.is_continued.ensures ∙ c.if-is_continued.false))
    (rw c.lacing_of.ensures at (sym c.has_end.ensures ∙ c.if-not-has_end.true))

pub returns : goal.returns
returns c =
    let p = c.args.page.now in
    rw (c.is_last_page.ensures, c.header_of-h.ensures)
    (if_one_ends p (rw c.header_of-h.ensures at (sym c.is_continued.ensures ∙ c.if-is_continued.false))
    (rw c.lacing_of.ensures at (sym c.has_end.ensures ∙ c.if-not-has_end.false)))
