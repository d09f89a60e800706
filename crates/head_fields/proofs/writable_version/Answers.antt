-- `head_fields::writable_version` meets its contract. Assumes nothing.
use mathlib.Core.Path.{refl}
use Rattle.head_fields.proofs.writable_version.Goals as goal

pub returns : goal.returns
returns c = refl
