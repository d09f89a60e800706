-- `feed_fields::same_pending` meets its contract. Assumes nothing.
use mathlib.Core.Path.{sym}
use Rattle.feed_fields.proofs.same_pending.Goals as goal

pub returns-in-Held : goal.returns-in-Held
returns-in-Held c = sym c.in-Held.is
