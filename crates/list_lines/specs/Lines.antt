-- The lines of a listing (RULES.md, 11). Assumes nothing.
use Rattle.std.specs.Prelude.{ℕ, ◌+◌, ◌≤◌, [], ◌∷◌, ◌++◌, length}
use Rattle.octets.specs.Octets.{Bytes}
use Rattle.text_put.specs.Marks.{space, line_feed}
use Rattle.text_decimal.specs.Decimal.{decimal}

-- "end dur frames kept" and a line feed
unfoldable pub first_line : Bytes
first_line =
    101 ∷ 110 ∷ 100 ∷ 32 ∷ 100 ∷ 117 ∷ 114 ∷ 32 ∷ 102 ∷ 114 ∷ 97 ∷ 109 ∷ 101 ∷ 115 ∷ 32 ∷ 107 ∷ 101 ∷ 112 ∷ 116 ∷ 10 ∷ []

-- one packet: its end stamp, its length, how many frames it has and how many of its samples are kept
unfoldable pub entry_line : ℕ → ℕ → ℕ → ℕ → Bytes
entry_line end samples frames kept =
    decimal end ++ space ++ decimal samples ++ space ++ decimal frames ++ space ++ decimal kept ++ line_feed

-- no line of a packet is longer: four numbers of 20 digits, three spaces and a line feed
abbrev pub longest : ℕ
longest = 84

-- "total kept="
abbrev pub total_kept : Bytes
total_kept = 116 ∷ 111 ∷ 116 ∷ 97 ∷ 108 ∷ 32 ∷ 107 ∷ 101 ∷ 112 ∷ 116 ∷ 61 ∷ []

-- " skipped="
abbrev pub and_skipped : Bytes
and_skipped = 32 ∷ 115 ∷ 107 ∷ 105 ∷ 112 ∷ 112 ∷ 101 ∷ 100 ∷ 61 ∷ []

-- " trimmed="
abbrev pub and_trimmed : Bytes
and_trimmed = 32 ∷ 116 ∷ 114 ∷ 105 ∷ 109 ∷ 109 ∷ 101 ∷ 100 ∷ 61 ∷ []

-- " hole="
abbrev pub and_hole : Bytes
and_hole = 32 ∷ 104 ∷ 111 ∷ 108 ∷ 101 ∷ 61 ∷ []

-- the last line of a listing that was not refused
unfoldable pub total_line : ℕ → ℕ → ℕ → ℕ → Bytes
total_line kept skipped trimmed hole =
    total_kept ++ decimal kept ++ and_skipped ++ decimal skipped
    ++ and_trimmed ++ decimal trimmed ++ and_hole ++ decimal hole ++ line_feed

-- "refused "
abbrev pub refused_by : Bytes
refused_by = 114 ∷ 101 ∷ 102 ∷ 117 ∷ 115 ∷ 101 ∷ 100 ∷ 32 ∷ []

-- " page "
abbrev pub on_page : Bytes
on_page = 32 ∷ 112 ∷ 97 ∷ 103 ∷ 101 ∷ 32 ∷ []

-- the last line of a listing that was: the refusal's number, and the page's, from 0
unfoldable pub refused_line : ℕ → ℕ → Bytes
refused_line number page = refused_by ++ decimal number ++ on_page ++ decimal page ++ line_feed

-- ---- the parts of a line

-- a name, and the digits of a number after it
abbrev pub named : Bytes → ℕ → Bytes
named name x = name ++ decimal x

-- they are in the buffer from place `at` on
abbrev pub HasNamed : Bytes → ℕ → Bytes → ℕ → Type 0
HasNamed out at name x = at + length name + length (decimal x) ≤ length out

-- two of them
abbrev pub HasPair : Bytes → ℕ → Bytes → ℕ → Bytes → ℕ → Type 0
HasPair out at first x second y =
    at + length first + length (decimal x) + length second + length (decimal y) ≤ length out
