-- `feed_fields::refuse_if` meets its contract. Assumes nothing.
use Rattle.refusal.specs.Checks.{first_of}
use Rattle.feed_fields.proofs.refuse_if.Goals as goal

pub returns-then-holds : goal.returns-then-holds
unfolding first_of
returns-then-holds c = rw c.if-holds.true

pub returns-else-holds : goal.returns-else-holds
unfolding first_of
returns-else-holds c = rw c.if-holds.false
