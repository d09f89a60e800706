-- `embulgri::embulgri_tags_comment` meets its contract. Assumes nothing.
use borrow.Author.Rules.{rules}
use Rattle.embulgri.proofs.embulgri_tags_comment.Goals as goal

pub returns : goal.returns
returns c = rw (← c.find_comment.ensures) c.store_part.ensures
