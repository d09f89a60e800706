-- `tags_parts::part_in` meets its contract. Assumes nothing.
use Rattle.tags_layout.specs.declared.Part.{Part}
use Rattle.refusal.specs.Told.{told}
use Rattle.refusal.specs.declared.Refusal.{Refusal}
use Rattle.std.specs.Prelude.{Result}
use mathlib.Core.Path.{sym, ap, ◌∙◌}
use Rattle.tags_layout.specs.declared.Part.{Part}
use Rattle.tags_reader.specs.Reading.{part_in}
use Rattle.tags_parts.proofs.part_in.Goals as goal

pub returns-in-Ok : goal.returns-in-Ok
returns-in-Ok c =
    let b = c.args.b.now in
    c.part_of.ensures ∙ sym (ap (λ (f : Result Part Refusal). part_in b (told f)) c.in-Ok.is)
