-- `feed_fields::wrong_flags` meets its contract. Assumes nothing.
use Rattle.stream.specs.Rules.{wrong_flags}
use Rattle.feed_fields.proofs.wrong_flags.Goals as goal

pub returns : goal.returns
unfolding wrong_flags
returns c = rw (c.is_first_page.ensures, c.is_first.ensures, c.is_last_page.ensures, c.in_headers.ensures)
