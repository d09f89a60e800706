-- `feed_partial::refusal_of_rest` meets its contract. Assumes nothing.
use mathlib.Core.Path.{sym, ◌∙◌}
use borrow.Author.Rules.{rules}
use Rattle.feed_partial.specs.Rest.{rest_refusal}
use Rattle.feed_partial.proofs.refusal_of_rest.Goals as goal

pub returns-then-is_ended : goal.returns-then-is_ended
unfolding rest_refusal
returns-then-is_ended c = rw (sym c.is_ended.ensures ∙ c.if-is_ended.true)

pub returns-else-is_ended : goal.returns-else-is_ended
unfolding rest_refusal
returns-else-is_ended c = rw (sym c.is_ended.ensures ∙ c.if-is_ended.false)
