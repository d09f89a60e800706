-- `tags_comment::most_of` meets its contract. Assumes nothing.
use mathlib.Core.Path.{sym, ◌∙◌}
use Rattle.tags_comment.proofs.most_of.Goals as goal

pub returns-then-is_minus : goal.returns-then-is_minus
returns-then-is_minus c = rw (sym c.is_minus.ensures ∙ c.if-is_minus.true)

pub returns-else-is_minus : goal.returns-else-is_minus
returns-else-is_minus c = rw (sym c.is_minus.ensures ∙ c.if-is_minus.false)
