-- `feed_page::check_unread` meets its contract. Assumes nothing.
use mathlib.Core.Path.{sym, ◌∙◌}
use Rattle.refusal.specs.Checks.{first_of}
use Rattle.feed_page.proofs.check_unread.Goals as goal

pub returns-then-is_short : goal.returns-then-is_short
unfolding first_of
returns-then-is_short c = rw (sym c.is_short.ensures ∙ c.if-is_short.true)

pub returns-then-is_ended : goal.returns-then-is_ended
unfolding first_of
returns-then-is_ended c =
    rw (sym c.is_short.ensures ∙ c.if-is_short.false, sym c.is_ended.ensures ∙ c.if-is_ended.true)

pub returns : goal.returns
unfolding first_of
returns c =
    rw (sym c.is_short.ensures ∙ c.if-is_short.false, sym c.is_ended.ensures ∙ c.if-is_ended.false)
