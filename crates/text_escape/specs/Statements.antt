-- What is proved of escaped texts, in addition to the contracts. Assumes nothing.
use Rattle.std.specs.Prelude.{ℕ, ◌≤◌, ◌<◌, ◌≡◌, Bool, true, not, ◌&&◌, ◌||◌, [], ◌∷◌, eqb, length, get_or}
use Rattle.octets.specs.Octets.{Bytes, Octets}
use Rattle.utf8.specs.declared.Character.{Character}
use Rattle.utf8.specs.Characters.{character_of, utf8}
use Rattle.text_escape.specs.Hidden.{is_hidden}
use Rattle.text_escape.specs.Escape.{backslash, escaped}
use Rattle.text_escape.specs.Undo.{unescaped}

-- an escaped text can be undone, whatever the bytes are
abbrev pub EscapeUndone : Type 0
EscapeUndone = (s : Bytes) → Octets s → unescaped (escaped s) ≡ s

-- no character, or one that is not hidden, or a backslash
abbrev pub is_harmless : Character → Bool
is_harmless c = eqb c.size 0 || (eqb c.number backslash || not (is_hidden c.number))

-- so is what begins at each place
unfoldable pub all_harmless : Bytes → Bool
all_harmless [] = true
all_harmless (b ∷ t) = is_harmless (character_of b t) && all_harmless t

-- not the byte of a control
pub record Printable (b : ℕ) : Type 0 where
  pub least : 0x20 ≤ b
  pub not_delete : b ≡ 0x7F → ⊥

pub record Harmless (t : Bytes) : Type 0 where
  pub text : utf8 t ≡ true
  pub characters : all_harmless t ≡ true
  pub bytes : (i : ℕ) → i < length t → Printable (get_or t i 0)

-- nothing in an escaped text can drive a terminal: it is UTF-8, and no character in it is hidden, and no byte a control
abbrev pub NothingDrives : Type 0
NothingDrives = (s : Bytes) → Octets s → Harmless (escaped s)
