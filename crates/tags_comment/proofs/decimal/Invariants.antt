-- `tags_comment::decimal` meets its contract. The loop's invariant: what is left gives the number, and is digits. Assumes nothing.
use mathlib.Core.Path.{◌≡◌}
use mathlib.Core.Bool.{true}
use Prim.Native.Nat.{◌^◌, ◌≤◌, ◌<◌}
use lib.ListN.{length, drop}
use Rattle.tags_comment.specs.Gain.{all_digits, decimal}
use Rattle.tags_comment.proofs.decimal.Given as goal

abbrev pub invariant-loop-b : goal.invariant-loop-b
invariant-loop-b l = (decimal l.x (drop l.b-index l.d) ≡ decimal 0 l.d) × (all_digits (drop l.b-index l.d) ≡ true) × (l.x < 10 ^ l.b-index) × (l.b-index ≤ length l.d)
