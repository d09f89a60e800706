-- `salvage_page::pieces::without_lead` meets its contract. Assumes nothing.
use Rattle.std.proofs.Common.{◌∙◌, rules}
use borrow.Author.Tests.{not-true, not-false}
use Rattle.salvage_page.proofs.Sums.{rest-whole}
use Rattle.salvage_page.proofs.pieces.without_lead.Goals as goal

pub returns-then-not-lead : goal.returns-then-not-lead
returns-then-not-lead c = rw c.if-not-lead.true

pub returns : goal.returns
returns c =
    let a = c.args in
    rw c.if-not-lead.false (rest-whole _ a.lacing.now ∙ c.lead_values-n.ensures.values)
