-- `salvage::lines::put_end` meets its contract. Assumes nothing.
use Rattle.salvage_rules.specs.Lines.{skipped}
use Rattle.std.proofs.Common.{rules}
use Rattle.salvage.proofs.lines.put_end.Goals as goal

pub returns : goal.returns
unfolding skipped
returns c =
    let s = c.put_line.ensures.stored in
    rw (← c.gap.ensures) (record { whats = s.whats; spots = s.spots; counts = s.counts })
