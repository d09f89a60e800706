-- `granule::place_first` meets its contract. Assumes nothing.
use Rattle.granule.proofs.place_first.Goals as goal

pub returns : goal.returns
returns c = rw (c.saturating_sub-at.ensures, c.saturating_sub.ensures)
