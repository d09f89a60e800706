-- `tags_lines::is_gain` meets its contract. Assumes nothing.
use mathlib.Core.Path.{ap₂}
use mathlib.Core.Bool.{◌||◌}
use Rattle.tags_lines.proofs.is_gain.Goals as goal

pub returns : goal.returns
returns c = ap₂ ◌||◌ c.is_track_gain.ensures c.is_album_gain.ensures
