-- The bytes that an escaped text means (RULES.md, 13). Assumes nothing.
use Rattle.std.specs.Prelude.{ℕ, ◌+◌, ◌-◌, ◌*◌, [], ◌∷◌, ltb, eqb}
use Rattle.octets.specs.Pick.{pick}
use Rattle.octets.specs.Octets.{Bytes}
use Rattle.text_escape.specs.Escape.{backslash}

-- what was read of an escape
pub data Begun : Type 0 where
  nothing : Begun
  -- its backslash
  slash : Begun
  -- "\x"
  slash_x : Begun
  -- "\x" and the first digit, by what it means
  digit : ℕ → Begun

-- what a digit "0" to "9" or "A" to "F" means
abbrev pub hex_value : ℕ → ℕ
hex_value b = pick (ltb b 0x3A) (b - 0x30) (b - 0x37)

unfoldable pub unescaped_from : Begun → Bytes → Bytes
unescaped_from w [] = []
unescaped_from nothing (b ∷ t) = pick (eqb b backslash) (unescaped_from slash t) (b ∷ unescaped_from nothing t)
unescaped_from slash (b ∷ t) = pick (eqb b backslash) (backslash ∷ unescaped_from nothing t) (unescaped_from slash_x t)
unescaped_from slash_x (b ∷ t) = unescaped_from (digit (hex_value b)) t
unescaped_from (digit h) (b ∷ t) = (h * 16 + hex_value b) ∷ unescaped_from nothing t

unfoldable pub unescaped : Bytes → Bytes
unescaped t = unescaped_from nothing t
