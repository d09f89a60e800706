-- `embulgri::feeding::embulgri_page_end` meets its contract. Assumes nothing.
use Rattle.octets.specs.Given.{given}
use mathlib.Core.Path.{sym, ap, ◌∙◌}
use borrow.Author.Rules.{rules}
use Rattle.embulgri.specs.Feeding.{end_number}
use Rattle.embulgri.proofs.feeding.embulgri_page_end.Goals as goal

pub returns-in-Some : goal.returns-in-Some
returns-in-Some c = ap end_number (sym (ap given c.in-Some.is) ∙ c.end_at.ensures)

pub returns-in-None : goal.returns-in-None
returns-in-None c = ap end_number (sym (ap given c.in-None.is) ∙ c.end_at.ensures)
