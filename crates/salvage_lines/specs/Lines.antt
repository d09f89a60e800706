-- The lines of salvage (RULES.md, 16): `what place bytes`. Assumes nothing.
use Rattle.std.specs.Prelude.{ℕ, [], ◌∷◌, ◌++◌, eqb}
use Rattle.octets.specs.Pick.{pick}
use Rattle.octets.specs.Octets.{Bytes}
use Rattle.text_put.specs.Marks.{space, line_feed}
use Rattle.text_decimal.specs.Decimal.{decimal}

-- "skip ", "number ", "mark ", "cut "
abbrev pub skip_word : Bytes
skip_word = 115 ∷ 107 ∷ 105 ∷ 112 ∷ 32 ∷ []

abbrev pub number_word : Bytes
number_word = 110 ∷ 117 ∷ 109 ∷ 98 ∷ 101 ∷ 114 ∷ 32 ∷ []

abbrev pub mark_word : Bytes
mark_word = 109 ∷ 97 ∷ 114 ∷ 107 ∷ 32 ∷ []

abbrev pub cut_word : Bytes
cut_word = 99 ∷ 117 ∷ 116 ∷ 32 ∷ []

-- 0 skip, 1 number, 2 mark; salvage tells no number above 3
abbrev pub what_word : ℕ → Bytes
what_word what = pick (eqb what 0) skip_word (pick (eqb what 1) number_word (pick (eqb what 2) mark_word cut_word))

unfoldable pub change_line : ℕ → ℕ → ℕ → Bytes
change_line what place bytes = what_word what ++ decimal place ++ space ++ decimal bytes ++ line_feed
