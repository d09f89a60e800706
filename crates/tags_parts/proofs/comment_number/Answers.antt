-- `tags_parts::comment_number` meets its contract. Assumes nothing.
use mathlib.Core.Path.{ap, ◌∙◌}
use Rattle.refusal.specs.Told.{Told, number_in}
use Rattle.tags_layout.specs.declared.Part.{Part}
use Rattle.tags_parts.proofs.comment_number.Goals as goal

pub returns-in-Ok : goal.returns-in-Ok
returns-in-Ok c = ap (λ (t : Told Part). number_in t) c.in-Ok.ensures

pub returns-in-Err : goal.returns-in-Err
returns-in-Err c = c.number.ensures ∙ ap (λ (t : Told Part). number_in t) c.in-Err.ensures
