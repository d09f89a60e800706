-- `granule::wrong_granule` meets its contract. Assumes nothing.
use Rattle.granule.specs.Judging.{granule_wrong}
use Rattle.granule.proofs.wrong_granule.Goals as goal

pub returns-then-completes : goal.returns-then-completes
unfolding granule_wrong
returns-then-completes c = rw c.if-completes.true

pub returns-else-completes : goal.returns-else-completes
unfolding granule_wrong
returns-else-completes c = rw c.if-completes.false
