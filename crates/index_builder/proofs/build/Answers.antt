-- What is told is planned, and filling begins where the plan says. Assumes nothing.
use mathlib.Core.Path.{◌∙◌}
use Rattle.index_builder.proofs.Filling.{builds}
use Rattle.index_builder.proofs.build.Goals as goal

pub returns : goal.returns
returns c = rw (c.fill.ensures, c.start_of-from.ensures) (builds _ _ _ _ c.plan-built.ensures)
