-- `salvage_page::pieces::kept_values` meets its contract. The loop's invariant: no value from n on ends a packet. Assumes nothing.
use Rattle.std.proofs.Common.{◌≡◌, ℕ, zero, suc, ◌-◌, ◌≤◌, false, length, take, drop, sym, refl, ap, le_refl, arith, drop_of_length-le}
use Rattle.octets.specs.Octets.{Bytes}
use Rattle.stream.specs.Page.{ends}
use Rattle.salvage_rules.specs.Tidy.{up_to_last}
use Rattle.salvage_page.proofs.Values.{up_to-none, up_to-here, ends-before}
use Rattle.salvage_page.proofs.pieces.kept_values.Given as goal

abbrev pub invariant-loop-n : goal.invariant-loop-n
invariant-loop-n l = (ends (drop l.n l.lacing) ≡ false) × (l.n ≤ length l.lacing)

abbrev pub decreases-loop-n : goal.decreases-loop-n
decreases-loop-n l = l.n
