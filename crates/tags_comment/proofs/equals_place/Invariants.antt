-- `tags_comment::equals_place` meets its contract. The loop's invariant: no "=" is before i. Assumes nothing.
use mathlib.Core.Path.{◌≡◌}
use Prim.Native.Nat.{◌+◌, ◌≤◌}
use lib.ListN.{length, drop}
use Rattle.tags_comment.specs.Names.{equals_place}
use Rattle.tags_comment.proofs.equals_place.Given as goal

abbrev pub invariant-loop-i : goal.invariant-loop-i
invariant-loop-i l = (l.i + equals_place (drop l.i l.c) ≡ equals_place l.c) × (l.i ≤ length l.c)
