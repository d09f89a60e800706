-- `head_families::index_count` meets its contract. Assumes nothing.
use mathlib.Core.Path.{sym, ◌∙◌}
use native.Mathlib.Omega.{arith}
use Rattle.head_families.proofs.index_count.Goals as goal

pub returns-then-has_matrix : goal.returns-then-has_matrix
returns-then-has_matrix c = record { same = rw (sym c.has_matrix.ensures ∙ c.if-has_matrix.true); most = omega arith }

pub returns : goal.returns
returns c =
    record {
      same = rw (sym c.has_matrix.ensures ∙ c.if-has_matrix.false) c.wide.ensures.same;
      most = c.wide.ensures.most;
    }
