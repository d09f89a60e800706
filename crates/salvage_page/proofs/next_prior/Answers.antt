-- `salvage_page::next_prior` meets its contract. Assumes nothing.
use Rattle.std.proofs.Common.{sym, rules}
use borrow.Author.Tests.{not-true, not-false}
use Rattle.salvage_page.proofs.Decided.{next-other, next-same}
use Rattle.salvage_page.proofs.next_prior.Goals as goal

pub returns-then-not-link : goal.returns-then-not-link
returns-then-not-link c = let a = c.args in sym (next-other a.prior a.link (not-true _ c.if-not-link.true))

pub returns : goal.returns
returns c =
    let a = c.args in
    rw c.prior_cut.ensures (sym (next-same a.prior a.link (not-false _ c.if-not-link.false)))
