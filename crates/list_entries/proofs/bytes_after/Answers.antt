-- `list_entries::bytes_after` meets its contract. Assumes nothing.
use mathlib.Core.Path.{sym, ◌∙◌}
use native.Mathlib.Omega.{arith}
use Rattle.list_entries.proofs.Reading.{length-tail}
use Rattle.list_entries.proofs.bytes_after.Goals as goal

pub returns : goal.returns
returns c =
    let a = c.args in
    sym (length-tail a.samples a.frames a.kept ∙ omega arith)
