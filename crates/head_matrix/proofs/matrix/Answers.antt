-- `head_matrix::matrix` meets its contract. Assumes nothing.
use mathlib.Core.Path.{◌∙◌}
use Rattle.head_matrix.proofs.Answers.{part_taken}
use Rattle.head_matrix.proofs.matrix.Goals as goal

pub returns : goal.returns
returns c = c.part_of.ensures ∙ rw c.unwrap_or-n.ensures (part_taken c.args.b.now c.read_size.result c.read_size.ensures)
