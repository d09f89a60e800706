-- The lines that name the fields of an identification header (RULES.md, 13). Assumes nothing.
use Rattle.std.specs.Prelude.{ℕ, ◌≤◌, [], ◌∷◌, ◌++◌, ℤ, length}
use Rattle.octets.specs.Octets.{Bytes}
use Rattle.text_put.specs.Marks.{space, line_feed}
use Rattle.text_put.specs.Writing.{Laid}
use Rattle.text_decimal.specs.Decimal.{decimal}
use Rattle.text_gain.specs.Numbers.{signed_decimal, decibels_end}

-- "gain "
abbrev pub gain_is : Bytes
gain_is = 103 ∷ 97 ∷ 105 ∷ 110 ∷ 32 ∷ []

-- "mapping"
abbrev pub mapping_is : Bytes
mapping_is = 109 ∷ 97 ∷ 112 ∷ 112 ∷ 105 ∷ 110 ∷ 103 ∷ []

unfoldable pub number_line : Bytes → ℕ → Bytes
number_line name x = name ++ (decimal x ++ line_feed)

-- a gain, and the same in decibels
abbrev pub gain_end : ℤ → Bytes
gain_end g = signed_decimal g ++ decibels_end g

-- how many bytes that is at most
abbrev pub gain_end_most : ℕ
gain_end_most = 56

unfoldable pub gain_line : ℤ → Bytes
gain_line g = gain_is ++ gain_end g

-- numbers, each after a space
unfoldable pub spaced : Bytes → Bytes
spaced [] = []
spaced (i ∷ s) = (space ++ decimal i) ++ spaced s

abbrev pub mapping_end : Bytes → Bytes
mapping_end s = spaced s ++ line_feed

-- how many bytes that is at most
abbrev pub mapping_end_most : ℕ
mapping_end_most = 1021

-- as many indices as a mapping has places, and room for them in a buffer d
pub record MappingRoom (d s : Bytes) : Type 0 where
  pub few : length s ≤ 255
  pub room : mapping_end_most ≤ length d

-- the end of the line, laid at the front of a buffer: the answer r, and the buffer from d at entry to `out` at exit
pub record MappingLaid (d s : Bytes) (r : ℕ) (out : Bytes) : Type 0 where
  pub laid : Laid d 0 (mapping_end s) r out
  pub short : length (mapping_end s) ≤ mapping_end_most

unfoldable pub mapping_line : Bytes → Bytes
mapping_line s = mapping_is ++ mapping_end s

-- an entry of the matrix, after a space
unfoldable pub entry_text : ℤ → Bytes
entry_text x = space ++ signed_decimal x
