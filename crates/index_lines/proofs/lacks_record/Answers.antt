-- `index_lines::lacks_record` meets its contract. Assumes nothing.
use mathlib.Core.Path.{ap, ◌∙◌}
use Prim.Native.Nat.{ℕ, ◌+◌}
use native.Mathlib.Omega.{arith}
use lib.Dec.{ltb}
use Rattle.index_lines.proofs.Lines.{length-record}
use Rattle.index_lines.proofs.lacks_record.Goals as goal

pub returns : goal.returns
returns c =
    let a = c.args in
    c.is_short.ensures ∙ ap (λ (n : ℕ). ltb a.len (a.at + n)) (omega (arith, length-record a.granule a.place a.sequence))
