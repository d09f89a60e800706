-- `recording::judge_run` meets its contract. Assumes nothing.
use borrow.Author.Rules.{rules}
use Rattle.recording.specs.Answers.{next_of}
use Rattle.recording.proofs.judge_run.Goals as goal

pub overflow_add-packets : goal.overflow_add-packets
overflow_add-packets c =
    let few = c.requires.packets in
    search rules

pub returns-in-Refused : goal.returns-in-Refused
unfolding next_of
returns-in-Refused c = rw c.in-Refused.is

pub returns-in-Cut : goal.returns-in-Cut
unfolding next_of
returns-in-Cut c = rw (c.in-Cut.is, c.judge_rest.ensures)

pub returns-in-Full : goal.returns-in-Full
unfolding next_of
returns-in-Full c = rw c.in-Full.is
