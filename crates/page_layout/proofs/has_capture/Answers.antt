-- `page_layout::has_capture` meets its contract. Assumes nothing.
use Rattle.page_layout.specs.Page.{has_capture}
use Rattle.page_layout.proofs.has_capture.Goals as goal

pub returns : goal.returns
unfolding has_capture
returns c = c.begins_with.ensures
