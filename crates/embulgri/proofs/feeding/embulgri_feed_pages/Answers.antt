-- `embulgri::feeding::embulgri_feed_pages` meets its contract. Assumes nothing.
use borrow.Author.Rules.{rules}
use Rattle.embulgri.proofs.Readers.{pages-fed}
use Rattle.embulgri.proofs.feeding.embulgri_feed_pages.Goals as goal

pub returns : goal.returns
returns c =
    pages-fed c.feed_state_pages-fed.ensures c.refusal_number.ensures c.why_number.ensures
