-- `text_escape::lay_escaped` meets its contract. The loop's invariant: what is left of the text. Assumes nothing.
use lib.ListN.{drop}
use Rattle.text_escape.specs.Escape.{escaped_from, escaped}
use Rattle.text_put.proofs.Filling.{Filling}
use Rattle.text_escape.proofs.lay_escaped.Given as goal

abbrev pub invariant-loop-i : goal.invariant-loop-i
invariant-loop-i l = Filling l.initial.out l.at (escaped l.s) l.out l.place (escaped_from l.k (drop l.i l.s))
