-- `feed_header::feed_header` meets its contract: a header page is fed, and of anything else nothing is told. Assumes nothing.
use mathlib.Core.Path.{sym, ◌∙◌}
use Rattle.octets.proofs.Tests.{failed, held}
use Rattle.stream.specs.Lent.{with_carry}
use Rattle.stream.specs.Readings.{readings}
use Rattle.feed_header.proofs.Fitting.{head-due, comment-due, not-due, due}
use Rattle.feed_header.proofs.feed_header.Goals as goal

pub returns-then-not-is_fed : goal.returns-then-not-is_fed
returns-then-not-is_fed c =
    λ crc m.
    let a = c.args in
    not-due a.core a.lacing.now a.body.now a.carry.now (readings crc) a.tally a.h m
    (failed c.is_fed.ensures c.if-not-is_fed.true)

pub feed_head-requires : goal.feed_head-requires
feed_head-requires c =
    let a = c.args in
    head-due a.core a.lacing.now a.body.now a.carry.now (held c.is_fed.ensures c.if-not-is_fed.false) (sym c.is_first.ensures ∙ c.if-is_first.true)

pub returns-then-is_first : goal.returns-then-is_first
returns-then-is_first c =
    λ crc m.
    let a = c.args in
    due a.core a.lacing.now a.body.now a.carry.now (readings crc) a.tally a.h m (held c.is_fed.ensures c.if-not-is_fed.false) c.feed_head.result
    (c.feed_head.ensures crc (with_carry m a.carry.now))

pub feed_comment-requires : goal.feed_comment-requires
feed_comment-requires c =
    let a = c.args in
    comment-due a.core a.lacing.now a.body.now a.carry.now (held c.is_fed.ensures c.if-not-is_fed.false)
    (sym c.is_first.ensures ∙ c.if-is_first.false)

pub returns : goal.returns
returns c =
    λ crc m.
    let a = c.args in
    due a.core a.lacing.now a.body.now a.carry.now (readings crc) a.tally a.h m (held c.is_fed.ensures c.if-not-is_fed.false) c.feed_comment.result
    (c.feed_comment.ensures crc m)
