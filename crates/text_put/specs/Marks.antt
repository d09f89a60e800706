-- The bytes between the parts of a line, and at its end. Assumes nothing.
use Rattle.std.specs.Prelude.{[], ◌∷◌}
use Rattle.octets.specs.Octets.{Bytes}

abbrev pub space : Bytes
space = 32 ∷ []

abbrev pub line_feed : Bytes
line_feed = 10 ∷ []

abbrev pub tab : Bytes
tab = 9 ∷ []
