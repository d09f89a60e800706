-- `stream_parts::begin_alike` meets its contract. Assumes nothing.
use Rattle.std.proofs.Common.{rules, le-leb}
use borrow.Author.Tests.{lt-leb}
use Rattle.stream_parts.specs.Agree.{equal_bytes}
use Rattle.stream_parts.proofs.begin_alike.Goals as goal

pub returns-then-c-n : goal.returns-then-c-n
unfolding equal_bytes
returns-then-c-n c = rw (lt-leb _ _ c.if-c-n.true)

pub returns : goal.returns
unfolding equal_bytes
returns c = rw (c.begins_with.ensures, c.part_of.ensures, le-leb _ _ c.if-c-n.false)
