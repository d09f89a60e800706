-- `page_lacing::sum_of` meets its contract. The loop's invariant: what is summed and what is left make the whole.
-- Assumes nothing.
use mathlib.Core.Path.{◌≡◌}
use Prim.Native.Nat.{◌+◌, ◌*◌, ◌≤◌}
use lib.ListN.{drop}
use Rattle.octets.specs.Octets.{total}
use Rattle.page_lacing.proofs.sum_of.Given as goal

abbrev pub invariant-loop-v : goal.invariant-loop-v
invariant-loop-v l = (l.n + total (drop l.v-index l.v-items) ≡ total l.v-items) × (l.n ≤ 255 * l.v-index)
