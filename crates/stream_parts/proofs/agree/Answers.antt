-- `stream_parts::agree` meets its contract. Assumes nothing.
use Rattle.std.proofs.Common.{rules}
use Rattle.stream_parts.specs.Agree.{agreeing}
use Rattle.stream_parts.proofs.agree.Goals as goal

pub returns-then-are_equal : goal.returns-then-are_equal
unfolding agreeing
returns-then-are_equal c = rw (c.begin_alike.ensures, ← c.are_equal.ensures, c.if-are_equal.true)

pub returns : goal.returns
unfolding agreeing
returns c = rw (← c.are_equal.ensures, c.if-are_equal.false)
