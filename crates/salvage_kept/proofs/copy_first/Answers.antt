-- `salvage_kept::copy_first` meets its contract. Assumes nothing.
use Rattle.std.proofs.Common.{take, ap, ◌∙◌, rules}
use Rattle.octets.specs.Octets.{copied}
use Rattle.salvage_kept.proofs.Carrying.{copied-first}
use Rattle.salvage_kept.proofs.copy_first.Goals as goal

pub returns : goal.returns
returns c =
    let a = c.args in
    ap (take a.n) (c.copy_at.ensures ∙ ap (copied a.to.now 0) c.part_of.ensures)
    ∙ copied-first a.n a.from.now a.to.now c.requires
