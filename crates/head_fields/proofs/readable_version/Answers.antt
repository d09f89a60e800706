-- `head_fields::readable_version` meets its contract. Assumes nothing.
use mathlib.Core.Path.{refl}
use Rattle.head_fields.proofs.readable_version.Goals as goal

pub returns : goal.returns
returns c = refl
