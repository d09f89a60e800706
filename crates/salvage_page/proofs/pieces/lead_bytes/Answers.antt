-- `salvage_page::pieces::lead_bytes` meets its contract: the sum of the values of the leading piece. Assumes nothing.
use Rattle.std.proofs.Common.{◌∙◌, rules}
use Rattle.salvage_page.proofs.Sums.{front_length, lead-sum}
use Rattle.salvage_page.proofs.pieces.lead_bytes.Goals as goal

pub slice_bounds-sum_of-end : goal.slice_bounds-sum_of-end
slice_bounds-sum_of-end c = front_length _ _ c.lead_values-n.ensures.inside

pub returns : goal.returns
returns c =
    let sum = c.sum_of.ensures.sum ∙ lead-sum c.args.lacing.now _ c.requires c.lead_values-n.ensures in
    record { bytes = sum; most = c.sum_of.ensures.most }
