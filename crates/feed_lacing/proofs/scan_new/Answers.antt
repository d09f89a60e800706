-- `feed_lacing::scan_new` meets its contract. Assumes nothing.
use mathlib.Core.Path.{sym}
use Rattle.feed_lacing.proofs.scan_new.Goals as goal

pub returns-then-is_quick : goal.returns-then-is_quick
returns-then-is_quick c = sym (c.is_quick.ensures c.if-is_quick.true)
