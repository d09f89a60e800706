-- `salvage_page::prior_cut` meets its contract. Assumes nothing.
use Rattle.std.proofs.Common.{sym, ◌∙◌, rules}
use borrow.Author.Tests.{not-true, not-false}
use Rattle.salvage_page.proofs.Decided.{cut-first, cut_new, cut-joined, cut-broken}
use Rattle.salvage_page.proofs.prior_cut.Goals as goal

pub returns-then-not-prior : goal.returns-then-not-prior
returns-then-not-prior c =
    let a = c.args in
    sym (cut-first a.prior a.link (not-true _ c.if-not-prior.true))

pub returns-then-not-link : goal.returns-then-not-link
returns-then-not-link c =
    let a = c.args in
    sym (cut_new a.prior a.link (not-false _ c.if-not-prior.false) (not-true _ c.if-not-link.true))

pub returns-then-follows : goal.returns-then-follows
returns-then-follows c =
    let a = c.args in
    sym (cut-joined a.prior a.link (not-false _ c.if-not-prior.false) (not-false _ c.if-not-link.false) (sym c.follows.ensures ∙ c.if-follows.true))

pub returns : goal.returns
returns c =
    let a = c.args in
    sym (cut-broken a.prior a.link (not-false _ c.if-not-prior.false) (not-false _ c.if-not-link.false) (sym c.follows.ensures ∙ c.if-follows.false))
