-- `text_pieces::begin` meets its contract. Assumes nothing.
use mathlib.Core.Path.{refl}
use Rattle.text_pieces.proofs.begin.Goals as goal

pub returns : goal.returns
returns c = refl
