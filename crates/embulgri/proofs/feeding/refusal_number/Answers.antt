-- `embulgri::feeding::refusal_number` meets its contract. Assumes nothing.
use mathlib.Core.Path.{sym, ap, ◌∙◌}
use borrow.Author.Rules.{rules}
use Rattle.feed_pages.specs.declared.Stop.{Stop}
use Rattle.feed_pages.specs.Answers.{told_stop}
use Rattle.embulgri.specs.Feeding.{refusal_number}
use Rattle.embulgri.proofs.feeding.refusal_number.Goals as goal

pub returns-in-Refused : goal.returns-in-Refused
returns-in-Refused c = c.number.ensures ∙ sym (ap (λ (s : Stop). refusal_number (told_stop s)) c.in-Refused.is)
