-- `embulgri::lines::embulgri_list_refused` meets its contract. Assumes nothing.
use borrow.Author.Rules.{rules}
use Rattle.embulgri.proofs.lines.embulgri_list_refused.Goals as goal

pub returns : goal.returns
returns c = c.put_refused.ensures
