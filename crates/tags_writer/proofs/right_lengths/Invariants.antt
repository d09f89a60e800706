-- `tags_writer::right_lengths` meets its contract. The loop's invariant: what is left decides. Assumes nothing.
use mathlib.Core.Path.{◌≡◌}
use Prim.Native.Nat.{◌≤◌}
use lib.ListN.{length}
use Rattle.tags_writer.specs.Code.{right_lengths}
use Rattle.tags_writer.proofs.Lengths.{rest_right}
use Rattle.tags_writer.proofs.right_lengths.Given as goal

abbrev pub invariant-loop-length : goal.invariant-loop-length
invariant-loop-length l = (rest_right l.text l.lengths l.at l.gains.track l.gains.album l.length-index ≡ right_lengths l.text l.lengths) × (l.at ≤ length l.text) × (l.length-index ≤ length l.lengths)
