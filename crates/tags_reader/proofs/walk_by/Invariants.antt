-- `tags_reader::walk_by` meets its contract. The loop's invariant: what is left of the walk decides. Assumes nothing.
use Rattle.std.specs.Prelude.{Some}
use mathlib.Core.Path.{◌≡◌}
use Prim.Native.Nat.{◌-◌, ◌≤◌}
use Rattle.tags_reader.specs.Code.{walked}
use Rattle.tags_reader.proofs.walk_by.Given as goal

abbrev pub invariant-loop-i : goal.invariant-loop-i
invariant-loop-i l = (walked l.b (l.n - l._i) (Some l.walk) ≡ walked l.b l.n (Some l.fn.from)) × (l._i ≤ l.n)
