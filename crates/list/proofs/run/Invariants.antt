-- The loop of `list::run` ends: its count of turns falls.
use Rattle.list.proofs.run.Given as goal

abbrev pub decreases-loop-turns : goal.decreases-loop-turns
decreases-loop-turns l = l.turns
