-- The first fall and the search by halving give what seeking answers. Assumes nothing.
use native.Mathlib.Omega.{arith}
use Rattle.index_search.proofs.Seeking.{seeks}
use Rattle.index_columns.proofs.seek_in.Goals as goal

pub returns : goal.returns
returns c =
    rw (c.answer.ensures, c.run-t.ensures, c.halving-s.ensures)
    (rw c.first_fall-f.ensures (seeks _ _ (omega arith)))
