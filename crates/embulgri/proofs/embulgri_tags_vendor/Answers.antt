-- `embulgri::embulgri_tags_vendor` meets its contract. Assumes nothing.
use borrow.Author.Rules.{rules}
use Rattle.embulgri.proofs.embulgri_tags_vendor.Goals as goal

pub returns : goal.returns
returns c = rw (← c.find_vendor.ensures) c.store_part.ensures
