-- `tags::feeding::run` is safe and ends: the lent slices keep their lengths, and the turns left decrease. Assumes nothing.
use Rattle.std.proofs.Common.{◌≡◌, length, rules}
use Rattle.tags.proofs.feeding.run.Goals as goal

pub begin-s-requires : goal.begin-s-requires
begin-s-requires c = tt

pub turn-s-requires : goal.turn-s-requires
turn-s-requires c = tt

pub goes_on-requires : goal.goes_on-requires
goes_on-requires c = tt
