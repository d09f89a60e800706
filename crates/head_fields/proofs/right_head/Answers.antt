-- `head_fields::right_head` meets its contract. Assumes nothing.
use Rattle.octets.proofs.Tests.{failed, held}
use Rattle.head_fields.specs.Right.{right_head}
use Rattle.head_fields.proofs.right_head.Goals as goal

pub returns-then-not-readable_version : goal.returns-then-not-readable_version
unfolding right_head
returns-then-not-readable_version c = rw (failed c.readable_version.ensures c.if-not-readable_version.true)

pub returns : goal.returns
unfolding right_head
returns c = rw (held c.readable_version.ensures c.if-not-readable_version.false) c.right_fields.ensures
