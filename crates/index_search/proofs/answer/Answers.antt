-- `index_search::answer` meets its contract. Assumes nothing.
use Rattle.index_search.proofs.Ends.{found_some, found_none}
use Rattle.index_search.proofs.answer.Goals as goal

pub returns-in-Some : goal.returns-in-Some
returns-in-Some c = rw c.in-Some.is

pub returns-then-s-gt0 : goal.returns-then-s-gt0
returns-then-s-gt0 c =
    rw c.in-None.is
    (found_some c.args.s.low _ c.if-s-gt0.true)

pub returns-else-s-gt0 : goal.returns-else-s-gt0
returns-else-s-gt0 c =
    rw c.in-None.is (found_none c.args.s.low _ c.if-s-gt0.false)
