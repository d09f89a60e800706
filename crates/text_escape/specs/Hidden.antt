-- Which characters a text that is shown does not have as they are (RULES.md, 13). Assumes nothing.
use Rattle.std.specs.Prelude.{ℕ, Bool, false, ◌&&◌, ◌||◌, List, [], ◌∷◌, leb}

-- characters by their numbers, from the first to the last
pub record Range : Type 0 where
  pub first : ℕ
  pub last : ℕ

infix 20 ◌to◌
abbrev pub ◌to◌ : ℕ → ℕ → Range
first to last = record { first = first; last = last }

abbrev pub is_within : ℕ → Range → Bool
is_within x r = leb r.first x && leb x r.last

abbrev pub is_in_one : ℕ → List Range → Bool
is_in_one x [] = false
is_in_one x (r ∷ rs) = is_within x r || is_in_one x rs

-- the backslash, since it begins an escape; the controls C0, DEL and C1; some characters that cannot be seen or that change
-- the order of others; private use
abbrev pub hidden : List Range
hidden =
    (0 to 0x1F)
    ∷ (0x5C to 0x5C)
    ∷ (0x7F to 0x9F)
    ∷ (0xAD to 0xAD)
    ∷ (0x61C to 0x61C)
    ∷ (0x180E to 0x180E)
    ∷ (0x200B to 0x200F)
    ∷ (0x2028 to 0x202E)
    ∷ (0x2060 to 0x206F)
    ∷ (0xE000 to 0xF8FF)
    ∷ (0xFEFF to 0xFEFF)
    ∷ (0xFFF9 to 0xFFFB)
    ∷ (0xFFFE to 0xFFFF)
    ∷ (0xE0000 to 0xE007F)
    ∷ (0xF0000 to 0x10FFFF)
    ∷ []

unfoldable pub is_hidden : ℕ → Bool
is_hidden x = is_in_one x hidden
