-- `embulgri::lines::embulgri_list_total` meets its contract. Assumes nothing.
use borrow.Author.Rules.{rules}
use Rattle.embulgri.proofs.lines.embulgri_list_total.Goals as goal

pub returns : goal.returns
returns c = c.put_total.ensures
