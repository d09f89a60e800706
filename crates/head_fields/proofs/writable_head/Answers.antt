-- `head_fields::writable_head` meets its contract. Assumes nothing.
use Rattle.octets.proofs.Tests.{failed, held}
use Rattle.head_fields.specs.Right.{writable_head}
use Rattle.head_fields.proofs.writable_head.Goals as goal

pub returns-then-not-writable_version : goal.returns-then-not-writable_version
unfolding writable_head
returns-then-not-writable_version c = rw (failed c.writable_version.ensures c.if-not-writable_version.true)

pub returns : goal.returns
unfolding writable_head
returns c = rw (held c.writable_version.ensures c.if-not-writable_version.false) c.right_fields.ensures
