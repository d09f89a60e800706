-- `salvage_page::pieces::lead_values` meets its contract: a chain finds the first value that ends a packet. Assumes nothing.
use Rattle.std.proofs.Common.{◌<◌, ◌≤◌, rules}
use Rattle.std.proofs.lemmas.Iterator.{IsFirst-from_position, YieldsList-from_slice}
use borrow.Author.Tests.{tests}
use Rattle.octets.specs.Octets.{Bytes}
use Rattle.salvage_page.proofs.Leading.{FirstEnd, lead_of}
use Rattle.salvage_page.proofs.pieces.lead_values.Goals as goal

pub returns-in-Some : goal.returns-in-Some
returns-in-Some c =
    let l : Bytes = c.args.lacing.now in
    let first : FirstEnd l c.position.result =
    IsFirst-from_position _ _ _ (λ v. v < 255) (λ v. 255 ≤ v) c.position.ensures.ran (YieldsList-from_slice l cc)
    (λ x q k. search (rules, tests)) (λ x q k. search (rules, tests)) in
    lead_of l c.in-Some.is first

pub returns-in-None : goal.returns-in-None
returns-in-None c =
    let l : Bytes = c.args.lacing.now in
    let first : FirstEnd l c.position.result =
    IsFirst-from_position _ _ _ (λ v. v < 255) (λ v. 255 ≤ v) c.position.ensures.ran (YieldsList-from_slice l cc)
    (λ x q k. search (rules, tests)) (λ x q k. search (rules, tests)) in
    lead_of l c.in-None.is first
