-- `recording_pages::page_at` meets its contract. Assumes nothing.
use Rattle.octets.specs.Given.{given}
use mathlib.Core.Path.{◌≡◌, sym, ap, ◌∙◌}
use native.Mathlib.Omega.{arith}
use lib.ListN.{length, take, drop, length-drop}
use lib.Seq.{take_all}
use borrow.Author.Rules.{rules}
use Rattle.page_end.proofs.Ends.{end-inside}
use Rattle.recording_pages.specs.Places.{page_at}
use Rattle.recording_pages.proofs.page_at.Goals as goal

pub overflow_sub-end : goal.overflow_sub-end
overflow_sub-end c =
    let at = c.args.at in
    let b = c.args.stream.now in
    omega (arith, (end-inside b at c.in-Some.end (sym c.end_at.ensures ∙ ap given c.in-Some.is)).after)

pub returns-in-Some : goal.returns-in-Some
unfolding page_at
returns-in-Some c =
    c.part_of.ensures ∙ rw (← c.end_at.ensures, c.in-Some.is)

pub returns-in-None : goal.returns-in-None
unfolding page_at
returns-in-None c =
    let at = c.args.at in
    let b = c.args.stream.now in
    let all : take (length b) (drop at b) ≡ drop at b = take_all (length b) (drop at b) (omega (arith, length-drop at b)) in
    c.part_of-in-None.ensures ∙ rw (← c.end_at.ensures, c.in-None.is) all
