-- `page_layout::count_of` meets its contract. Assumes nothing.
use Rattle.page_layout.proofs.count_of.Goals as goal

pub returns : goal.returns
returns c = rw (← c.byte_at.ensures) c.wide.ensures
