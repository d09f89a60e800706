-- `stream_parts::totals_after` meets its contract. Assumes nothing.
use Rattle.std.proofs.Common.{rules}
use Rattle.stream_parts.specs.Totals.{totals_after}
use Rattle.stream_parts.proofs.totals_after.Goals as goal

pub returns : goal.returns
unfolding totals_after
returns c =
    rw (c.whole_total-hole.ensures, c.whole_total-trimmed.ensures, c.whole_total-skipped.ensures, c.whole_total-kept.ensures)
