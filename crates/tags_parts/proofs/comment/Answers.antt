-- `tags_parts::comment` meets its contract. Assumes nothing.
use mathlib.Core.Path.{ap, ◌∙◌}
use Rattle.tags_reader.specs.Reading.{part_in}
use Rattle.tags_parts.proofs.comment.Goals as goal

pub returns : goal.returns
returns c = c.part_in.ensures ∙ ap (part_in c.args.b.now) c.find_comment.ensures
