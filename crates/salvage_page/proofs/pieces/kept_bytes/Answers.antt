-- `salvage_page::pieces::kept_bytes` meets its contract: the sum of the values before the trailing piece. Assumes nothing.
use Rattle.std.proofs.Common.{◌∙◌, rules}
use Rattle.salvage_page.proofs.Sums.{front_length, kept-sum}
use Rattle.salvage_page.proofs.pieces.kept_bytes.Goals as goal

pub slice_bounds-sum_of-end : goal.slice_bounds-sum_of-end
slice_bounds-sum_of-end c = front_length _ _ c.kept_values-n.ensures.inside

pub returns : goal.returns
returns c =
    let sum = c.sum_of.ensures.sum ∙ kept-sum c.args.lacing.now _ c.requires c.kept_values-n.ensures in
    sum
