-- `old_clock::start` meets its contract: the bits of 0.0 are those of zero. Assumes nothing.
use mathlib.Core.Path.{refl}
use lib.Ieee.{odd, of_fields, of_bits}
use Rattle.old_clock.proofs.start.Goals as goal

pub returns : goal.returns
unfolding of_bits of_fields odd
returns c = refl
