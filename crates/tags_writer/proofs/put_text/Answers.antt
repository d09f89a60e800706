-- `tags_writer::put_text` meets its contract. Assumes nothing.
use mathlib.Core.Path.{ap, ◌∙◌}
use Prim.Native.Nat.{◌+◌}
use Rattle.octets.specs.Octets.{Bytes, copied}
use Rattle.tags_writer.proofs.Laying.{text-copied}
use Rattle.tags_writer.proofs.put_text.Goals as goal

pub returns : goal.returns
returns c =
    let a = c.args in
    c.copy_at.ensures
    ∙ ap (λ (d : Bytes). copied d (a.at + 4) a.t.now) c.put32.ensures
    ∙ text-copied a.out.now a.at a.t.now c.requires.room
