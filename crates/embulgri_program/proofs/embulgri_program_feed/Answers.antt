-- `embulgri_program::embulgri_program_feed` meets its contract, which is that of the function it calls. Assumes nothing.
use borrow.Author.Rules.{rules}
use Rattle.embulgri_program.proofs.embulgri_program_feed.Goals as goal

pub returns : goal.returns
returns c = c.embulgri_feed_pages.ensures
