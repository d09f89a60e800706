-- `feed_fields::same_position` meets its contract. Assumes nothing.
use mathlib.Core.Path.{sym}
use Rattle.feed_fields.proofs.same_position.Goals as goal

pub returns-in-At : goal.returns-in-At
returns-in-At c = sym c.in-At.is
