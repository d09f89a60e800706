-- `head_families::has_counts` meets its contract. Assumes nothing.
use mathlib.Core.Path.{refl}
use Rattle.head_families.proofs.has_counts.Goals as goal

pub returns : goal.returns
returns c = refl
