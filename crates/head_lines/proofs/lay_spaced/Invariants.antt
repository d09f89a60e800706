-- `head_lines::lay_spaced` meets its contract. The loop's invariant: what is left of the numbers. Assumes nothing.
use Prim.Native.Nat.{◌-◌}
use lib.ListN.{length, drop}
use Rattle.text_put.proofs.Filling.{Filling}
use Rattle.head_lines.specs.Lines.{spaced}
use Rattle.head_lines.proofs.lay_spaced.Given as goal

abbrev pub invariant-loop-i : goal.invariant-loop-i
invariant-loop-i l = Filling l.initial.out 0 (spaced l.s) l.out l.place (spaced (drop l.i l.s))

abbrev pub decreases-loop-i : goal.decreases-loop-i
decreases-loop-i l = length l.s - l.i
