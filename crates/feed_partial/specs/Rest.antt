-- The refusal of bytes that are no whole page (RULES.md, refusals 2 and 3). Assumes nothing.
use Rattle.octets.specs.Pick.{pick}
use Rattle.refusal.specs.declared.Refusal.{Refusal}
use Rattle.refusal.specs.declared.Refusal.TheVariants.{AfterEnd, NotOnePage}
use Rattle.stream.specs.State.{is_ended}
use Rattle.stream.specs.Feed.{Reader}

unfoldable pub rest_refusal : Reader → Refusal
rest_refusal r = pick (is_ended r.core.phase) AfterEnd NotOnePage
