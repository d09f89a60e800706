-- `salvage_list::page_at` meets its contract. Assumes nothing.
use Rattle.octets.specs.Given.{given}
use mathlib.Core.Path.{◌≡◌, sym, ap, ◌∙◌}
use native.Mathlib.Omega.{arith}
use borrow.Author.Rules.{rules}
use Rattle.page_end.proofs.Ends.{end-inside}
use Rattle.salvage_rules.specs.Listed.{bytes_at}
use Rattle.salvage_list.proofs.page_at.Goals as goal

pub overflow_sub-end : goal.overflow_sub-end
overflow_sub-end c =
    let at = c.args.place in
    let b = c.args.buffer.now in
    omega (arith, (end-inside b at c.in-Some.end (sym c.end_at.ensures ∙ ap given c.in-Some.is)).after)

pub returns-in-Some : goal.returns-in-Some
unfolding bytes_at
returns-in-Some c =
    c.part_of.ensures ∙ rw (← c.end_at.ensures, c.in-Some.is)

pub returns-in-None : goal.returns-in-None
unfolding bytes_at
returns-in-None c =
    c.part_of-in-None.ensures ∙ rw (← c.end_at.ensures, c.in-None.is)
