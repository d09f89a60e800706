-- `feed_start::open_core` meets its contract. Assumes nothing.
use borrow.Author.Rules.{rules}
use Rattle.refusal.specs.Checks.{first_of}
use Rattle.stream.specs.Feed.{open_part_way}
use Rattle.octets.proofs.Tests.{failed, held}
use Rattle.feed_start.proofs.open_core.Goals as goal

pub returns-then-not-right_head : goal.returns-then-not-right_head
unfolding open_part_way first_of
returns-then-not-right_head c = rw (failed c.right_head.ensures c.if-not-right_head.true)

pub returns : goal.returns
unfolding open_part_way first_of
returns c = rw (c.no_tally-tally.ensures, held c.right_head.ensures c.if-not-right_head.false)
