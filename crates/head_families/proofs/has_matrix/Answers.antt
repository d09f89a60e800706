-- `head_families::has_matrix` meets its contract. Assumes nothing.
use mathlib.Core.Path.{refl}
use Rattle.head_families.proofs.has_matrix.Goals as goal

pub returns : goal.returns
returns c = refl
