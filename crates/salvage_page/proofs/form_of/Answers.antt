-- `salvage_page::form_of` meets its contract. Assumes nothing.
use Rattle.std.proofs.Common.{rules}
use borrow.Author.Tests.{not-true, not-false}
use Rattle.salvage_page.proofs.Decided.{form-kept, form_through, form-other}
use Rattle.salvage_page.proofs.form_of.Goals as goal

pub returns-then-not-cut : goal.returns-then-not-cut
returns-then-not-cut c =
    let a = c.args in
    rw c.if-not-cut.true (form-kept a.prior a.link c.prior_cut-lead.ensures)

pub returns-then-link : goal.returns-then-link
returns-then-link c =
    let a = c.args in
    rw c.if-not-cut.false (form_through a.prior a.link c.if-link.true)

pub returns : goal.returns
returns c =
    let a = c.args in
    rw c.if-not-cut.false (form-other a.prior a.link c.prior_cut-lead.ensures c.if-link.false)
