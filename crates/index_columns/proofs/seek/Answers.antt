-- 22 by the lengths, and then seeking by the granule positions. Assumes nothing.
use Rattle.octets.proofs.Tests.{failed, held}
use Rattle.index_columns.proofs.Seeking.{unequal, finds}
use Rattle.index_columns.proofs.seek.Goals as goal

pub returns-then-not-are_equal : goal.returns-then-not-are_equal
returns-then-not-are_equal c = unequal _ _ _ _ (failed c.are_equal.ensures c.if-not-are_equal.true)

pub returns : goal.returns
returns c = finds _ _ _ _ (held c.are_equal.ensures c.if-not-are_equal.false) c.seek_in.ensures
