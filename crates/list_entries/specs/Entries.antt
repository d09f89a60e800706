-- The lines of several packets, one after the other (RULES.md, 11). Assumes nothing.
use Rattle.std.specs.Prelude.{ℕ, suc, ◌+◌, ◌-◌, ◌≡◌, List, [], ◌∷◌, ◌++◌, ltb, length}
use Rattle.octets.specs.Pick.{pick}
use Rattle.octets.specs.Octets.{Bytes, copied}
use Rattle.list_lines.specs.Lines.{entry_line, longest}
use Rattle.list_entries.specs.declared.Listed.{Listed}

-- some lines, and how many they are
pub record Lined : Type 0 where
  pub text : Bytes
  pub count : ℕ

abbrev pub no_lines : Lined
no_lines = record { text = []; count = 0 }

abbrev pub before : Bytes → Lined → Lined
before line l = record { text = line ++ l.text; count = suc l.count }

-- the lines of packets, by their end stamps, lengths, frame counts and kept counts, as long as `room` has room for any line;
-- the shortest of the four lists tells how many packets there are
unfoldable pub lines_in : ℕ → List ℕ → List ℕ → List ℕ → List ℕ → Lined
lines_in room [] lengths frames kept = no_lines
lines_in room (e ∷ ends) [] frames kept = no_lines
lines_in room (e ∷ ends) (s ∷ lengths) [] kept = no_lines
lines_in room (e ∷ ends) (s ∷ lengths) (f ∷ frames) [] = no_lines
lines_in room (e ∷ ends) (s ∷ lengths) (f ∷ frames) (k ∷ kept) =
    pick (ltb room longest) no_lines
    (before (entry_line e s f k) (lines_in (room - length (entry_line e s f k)) ends lengths frames kept))

-- the answer r, and the buffer from d at entry to `out` at exit: the lines from place `at` on, and the rest of d
pub record PutLines (d : Bytes) (at : ℕ) (l : Lined) (r : Listed) (out : Bytes) : Type 0 where
  pub place : r.at ≡ at + length l.text
  pub count : r.count ≡ l.count
  pub output : out ≡ copied d at l.text
