-- `salvage_page::pieces::body_without_lead` meets its contract. Assumes nothing.
use Rattle.std.proofs.Common.{rules}
use borrow.Author.Tests.{not-true, not-false}
use Rattle.salvage_rules.specs.Tidy.{first_bytes}
use Rattle.salvage_page.proofs.Kept.{rest_of}
use Rattle.salvage_page.proofs.pieces.body_without_lead.Goals as goal

pub returns-then-not-lead : goal.returns-then-not-lead
returns-then-not-lead c = rw c.if-not-lead.true

pub returns : goal.returns
returns c =
    let a = c.args in
    rw (c.if-not-lead.false, c.part_of.ensures, c.lead_bytes.ensures.bytes) (rest_of (first_bytes a.lacing.now) a.body.now)
