-- `salvage_page::pieces::trail_bytes` meets its contract: the sum of the values of the trailing piece. Assumes nothing.
use Rattle.std.proofs.Common.{◌∙◌, rules}
use Rattle.salvage_page.proofs.Sums.{trail-sum}
use Rattle.salvage_page.proofs.pieces.trail_bytes.Goals as goal

pub returns : goal.returns
returns c =
    record {
      bytes = c.sum_of.ensures.sum ∙ trail-sum c.args.lacing.now _ c.requires c.kept_values-n.ensures;
      most = c.sum_of.ensures.most;
    }
