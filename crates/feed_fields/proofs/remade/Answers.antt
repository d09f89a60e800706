-- `feed_fields::remade` meets its contract. Assumes nothing.
use Rattle.feed_fields.proofs.remade.Goals as goal

pub returns : goal.returns
returns c = rw (c.same_position.ensures, c.same_pending.ensures)
