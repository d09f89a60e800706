-- `list_entries::put_again` meets its contract. Assumes nothing.
use Rattle.list_entries.proofs.Laying.{laid-again}
use Rattle.list_entries.proofs.put_again.Goals as goal

pub returns : goal.returns
returns c =
    laid-again c.requires c.put64.ensures c.put_last_four.ensures c.put64-2.ensures c.put64-3.ensures
