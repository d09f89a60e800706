-- Asking for a text of a comment header by its place (RULES.md, refusal 14). Assumes nothing.
use Rattle.refusal.specs.declared.Refusal.{Refusal}
use Rattle.std.specs.Prelude.{Result, Ok, Err, ℕ, not, [], ◌∷◌}
use Rattle.octets.specs.Octets.{Bytes}
use Rattle.refusal.specs.declared.Refusal.TheVariants.{BadTags}
use Rattle.refusal.specs.Checks.{◌when◌, first_of}
use Rattle.refusal.specs.Told.{Told, gives, refuses, decided}
use Rattle.refusal.specs.Numbers.{number_of}
use Rattle.tags_layout.specs.declared.Part.{Part}
use Rattle.tags_layout.specs.Layout.{part_at, fits_at}

-- the text whose length is at this place, for a listing that goes from each comment to the next
unfoldable pub find_text : Bytes → ℕ → Told Part
find_text b at = decided (first_of (BadTags when not (fits_at b at) ∷ [])) (part_at b at)
