-- `check_stream::put_found` meets its contract: five findings, each where it is there. Assumes nothing.
use borrow.Author.Rules.{rules}
use Rattle.check_rules.specs.Findings.{finding_if}
use Rattle.check_stream.proofs.Storing.{put_both}
use Rattle.check_stream.proofs.put_found.Goals as goal

pub returns : goal.returns
returns c =
    let a = c.args in
    put_both {A = finding_if a.found.unfinished 1 a.page} c.put_finding-at.ensures
    (put_both {A = finding_if a.found.endless 2 a.page} c.put_finding-at-2.ensures
    (put_both c.put_finding-at-3.ensures
    (put_both c.put_finding-at-4.ensures c.put_finding.ensures)))
