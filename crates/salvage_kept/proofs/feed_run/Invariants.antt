-- `salvage_kept::feed_run` meets its contract. The loop's invariant: the pages so far are fed. Assumes nothing.
use Rattle.std.proofs.Common.{◌≡◌, suc, ◌-◌, ◌^◌, ◌<◌, length, ◌∙◌, subst, arith, rules}
use Rattle.stream.specs.Lent.{lent_of}
use Rattle.salvage_kept.specs.Promises.{Onward}
use Rattle.salvage_kept.proofs.Running.{Ran, ran_not, nearer, run_over, can_feed, run_on, run_refused}
use Rattle.salvage_kept.proofs.feed_run.Given as goal

abbrev pub invariant-loop-next : goal.invariant-loop-next
invariant-loop-next l = Ran l.buffer l.list l.initial.pass l.pass (lent_of l.initial.carry l.initial.ends l.initial.lengths l.initial.kept l.initial.frames) (lent_of l.carry l.ends l.lengths l.kept l.frames) l.initial.keep l.keep l.initial.spare l.spare

abbrev pub decreases-loop-next : goal.decreases-loop-next
decreases-loop-next l = length l.list - l.pass.now.at
