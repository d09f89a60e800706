-- A text as it is shown: the characters that are not hidden as they are, and every other byte escaped (RULES.md, 13). Assumes
-- nothing.
use Rattle.std.specs.Prelude.{ℕ, zero, suc, ◌+◌, ◌-◌, ◌/◌, ◌%◌, Bool, true, false, [], ◌∷◌, ◌++◌, ltb, eqb}
use Rattle.octets.specs.Pick.{pick}
use Rattle.octets.specs.Octets.{Bytes}
use Rattle.utf8.specs.declared.Character.{Character}
use Rattle.utf8.specs.Characters.{character_of}
use Rattle.text_escape.specs.Hidden.{is_hidden}

-- ---- one byte

abbrev pub backslash : ℕ
backslash = 0x5C

-- "0" to "9", "A" to "F"
abbrev pub hex_digit : ℕ → ℕ
hex_digit d = pick (ltb d 10) (0x30 + d) (0x37 + d)

-- "\\" for a backslash, "\xHH" for any other byte
unfoldable pub escape_of : ℕ → Bytes
escape_of b = pick (eqb b backslash) (backslash ∷ backslash ∷ []) (backslash ∷ 0x78 ∷ hex_digit (b / 16) ∷ hex_digit (b % 16) ∷ [])

-- a byte as it is, or escaped
abbrev pub image_of : Bool → ℕ → Bytes
image_of true b = b ∷ []
image_of false b = escape_of b

-- ---- a text

-- how many bytes are shown of the character that begins with the byte b and goes on in s: all, or none where it is hidden
abbrev pub size_shown : Character → ℕ
size_shown c = pick (is_hidden c.number) 0 c.size

unfoldable pub shown_length : ℕ → Bytes → ℕ
shown_length b s = size_shown (character_of b s)

-- how many bytes from b on are shown, where k of them belong to a character that began before it
abbrev pub bytes_shown : ℕ → ℕ → Bytes → ℕ
bytes_shown zero b s = shown_length b s
bytes_shown (suc k) b s = suc k

-- b itself is one of n bytes that are shown
abbrev pub is_shown : ℕ → Bool
is_shown zero = false
is_shown (suc n) = true

unfoldable pub escaped_from : ℕ → Bytes → Bytes
escaped_from k [] = []
escaped_from k (b ∷ s) = image_of (is_shown (bytes_shown k b s)) b ++ escaped_from (bytes_shown k b s - 1) s

unfoldable pub escaped : Bytes → Bytes
escaped s = escaped_from 0 s
