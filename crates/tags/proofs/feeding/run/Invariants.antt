-- `tags::feeding::run` is safe and ends: the lent slices keep their lengths, and the turns left decrease. Assumes nothing.
use Rattle.std.proofs.Common.{◌≡◌, length, rules}
use Rattle.tags.proofs.feeding.run.Given as goal

abbrev pub invariant-loop-turns : goal.invariant-loop-turns
invariant-loop-turns l = (length l.buffer ≡ length l.initial.buffer) × ((length l.carry ≡ length l.initial.carry) × (length l.header ≡ length l.initial.header))

abbrev pub decreases-loop-turns : goal.decreases-loop-turns
decreases-loop-turns l = l.turns
