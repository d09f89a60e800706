-- `feed_header::is_fed` meets its contract. Assumes nothing.
use Rattle.octets.proofs.Tests.{failed, held}
use Rattle.feed_header.specs.Header.{is_header_page}
use Rattle.feed_header.proofs.is_fed.Goals as goal

pub returns-then-not-is_header : goal.returns-then-not-is_header
unfolding is_header_page
returns-then-not-is_header c = rw (failed c.is_header.ensures c.if-not-is_header.true)

pub returns-then-is_carry_short : goal.returns-then-is_carry_short
unfolding is_header_page
returns-then-is_carry_short c =
    rw (held c.is_header.ensures c.if-not-is_header.false, ← c.is_carry_short.ensures, c.if-is_carry_short.true)

pub returns : goal.returns
unfolding is_header_page
returns c =
    rw (held c.is_header.ensures c.if-not-is_header.false, ← c.is_carry_short.ensures, c.if-is_carry_short.false)
    c.is_body.ensures
