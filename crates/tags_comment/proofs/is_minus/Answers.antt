-- `tags_comment::is_minus` meets its contract. Assumes nothing.
use mathlib.Core.Path.{ap}
use Prim.Native.Nat.{ℕ}
use lib.Dec.{eqb}
use Rattle.tags_comment.proofs.is_minus.Goals as goal

pub returns : goal.returns
returns c = ap (λ (b : ℕ). eqb b 0x2d) c.byte_at.ensures
