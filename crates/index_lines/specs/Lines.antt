-- The lines of an index and of what a seek in it answers (RULES.md, 15). Assumes nothing.
use Rattle.std.specs.Prelude.{ℕ, ◌+◌, List, [], ◌∷◌, ◌++◌, ltb, length}
use Rattle.octets.specs.Pick.{pick}
use Rattle.octets.specs.Octets.{Bytes}
use Rattle.text_put.specs.Marks.{space, line_feed}
use Rattle.text_decimal.specs.Decimal.{decimal}
use Rattle.list_lines.specs.Lines.{refused_by}
use Rattle.list_entries.specs.Entries.{Lined, no_lines, before}

-- "granule place sequence" and a line feed
abbrev pub index_first : Bytes
index_first =
    103 ∷ 114 ∷ 97 ∷ 110 ∷ 117 ∷ 108 ∷ 101 ∷ 32 ∷ 112 ∷ 108 ∷ 97 ∷ 99 ∷ 101 ∷ 32 ∷ 115 ∷ 101 ∷ 113 ∷ 117 ∷ 101 ∷ 110 ∷
    99 ∷ 101 ∷ 10 ∷ []

-- one record: its granule position, its place and its sequence number
unfoldable pub record_line : ℕ → ℕ → ℕ → Bytes
record_line granule place sequence = decimal granule ++ space ++ decimal place ++ space ++ decimal sequence ++ line_feed

-- no line of a record is longer: two numbers of 20 digits, one of 10, two spaces and a line feed
abbrev pub longest : ℕ
longest = 53

-- "granule place sequence probes" and a line feed
abbrev pub seek_first : Bytes
seek_first =
    103 ∷ 114 ∷ 97 ∷ 110 ∷ 117 ∷ 108 ∷ 101 ∷ 32 ∷ 112 ∷ 108 ∷ 97 ∷ 99 ∷ 101 ∷ 32 ∷ 115 ∷ 101 ∷ 113 ∷ 117 ∷ 101 ∷ 110 ∷
    99 ∷ 101 ∷ 32 ∷ 112 ∷ 114 ∷ 111 ∷ 98 ∷ 101 ∷ 115 ∷ 10 ∷ []

-- the record that a seek found, and the number of probes
unfoldable pub found_line : ℕ → ℕ → ℕ → ℕ → Bytes
found_line granule place sequence probes =
    decimal granule ++ space ++ decimal place ++ space ++ decimal sequence ++ space ++ decimal probes ++ line_feed

-- "begin "
abbrev pub begin_after : Bytes
begin_after = 98 ∷ 101 ∷ 103 ∷ 105 ∷ 110 ∷ 32 ∷ []

-- no record is early enough: the number of probes
abbrev pub begin_line : ℕ → Bytes
begin_line probes = begin_after ++ decimal probes ++ line_feed

-- a refusal that names neither a page nor a place: its number
abbrev pub number_refused_line : ℕ → Bytes
number_refused_line number = refused_by ++ decimal number ++ line_feed

-- " place "
abbrev pub at_place : Bytes
at_place = 32 ∷ 112 ∷ 108 ∷ 97 ∷ 99 ∷ 101 ∷ 32 ∷ []

-- a refusal: its number, and the place that it names
unfoldable pub place_refused_line : ℕ → ℕ → Bytes
place_refused_line number place = refused_by ++ decimal number ++ at_place ++ decimal place ++ line_feed

-- the lines of records, by their granule positions, places and sequence numbers, from place `at` on of a buffer of `len`
-- bytes, as long as any line would fit; the shortest of the three lists tells how many records there are
unfoldable pub records_in : ℕ → ℕ → List ℕ → List ℕ → List ℕ → Lined
records_in len at [] places sequences = no_lines
records_in len at (g ∷ granules) [] sequences = no_lines
records_in len at (g ∷ granules) (p ∷ places) [] = no_lines
records_in len at (g ∷ granules) (p ∷ places) (s ∷ sequences) =
    pick (ltb len (at + longest)) no_lines
    (before (record_line g p s) (records_in len (at + length (record_line g p s)) granules places sequences))
