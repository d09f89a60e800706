-- Salvage into lent memory (RULES.md, 16): 1 before all else, then what salvage gives, and 22 where that does not fit. Assumes
-- nothing.
use Rattle.std.specs.Prelude.{Result, Ok, Err, ◌≡◌, ℕ, min, ◌||◌, List, [], ◌++◌, map, length, drop, nat_lt}
use Rattle.refusal.specs.declared.Refusal.{Refusal}
use Rattle.octets.specs.Pick.{pick}
use Rattle.octets.specs.Octets.{Bytes, copied}
use Rattle.refusal.specs.declared.Refusal.TheVariants.{ShortRoom, ShortOutput}
use Rattle.refusal.specs.Numbers.{number_of}
use Rattle.refusal.specs.Told.{Told, gives, refuses}
use Rattle.page_crc.specs.Crc.{page_crc}
use Rattle.stream.specs.Lent.{Slice}
use Rattle.salvage_rules.specs.Lines.{Line}
use Rattle.salvage_rules.specs.Rounds.{Salvage, refused, saved, salvage}
use Rattle.salvage_kept.specs.Found.{is_short_work}
use Rattle.salvage.specs.declared.Salvaged.{Salvaged}

-- how many bytes and lines are written
pub record Amounts : Type 0 where
  pub bytes : ℕ
  pub lines : ℕ

abbrev pub amounts : ℕ → ℕ → Amounts
amounts bytes lines = record { bytes = bytes; lines = lines }

-- an output of so many bytes, and lists of which the shortest has `room` places
abbrev pub fitted : Salvage → ℕ → ℕ → Told Amounts
fitted (refused n) out room = refuses n
fitted (saved bytes ls) out room =
    pick (nat_lt out (length bytes) || nat_lt room (length ls))
    (refuses (number_of ShortOutput))
    (gives (amounts (length bytes) (length ls)))

unfoldable pub salvage_told : Bytes → ℕ → ℕ → ℕ → Told Amounts
salvage_told b work out room =
    pick (is_short_work (length b) work) (refuses (number_of ShortRoom)) (fitted (salvage page_crc b) out room)

-- ---- the lent memory at the end: a refusal writes to none but the work list

abbrev pub bytes_in : Salvage → Bytes
bytes_in (refused n) = []
bytes_in (saved bytes ls) = bytes

abbrev pub lines_in : Salvage → List Line
lines_in (refused n) = []
lines_in (saved bytes ls) = ls

abbrev pub output_after : Told Amounts → Bytes → Bytes → Bytes
output_after (gives a) bytes out = copied out 0 bytes
output_after (refuses n) bytes out = out

-- a column with a field of the lines in its first places, the others as they were
abbrev pub column_after : Told Amounts → (Line → ℕ) → List Line → List ℕ → List ℕ
column_after (gives a) field ls old = map field ls ++ drop (length ls) old
column_after (refuses n) field ls old = old

-- what the work list holds at the end is free
abbrev pub Free : List ℕ → Type 0
Free ws = Unit {0}

-- what the code's answer tells
abbrev pub told_salvaged : Result Salvaged Refusal → Told Amounts
told_salvaged (Ok s) = gives (amounts s.bytes s.lines)
told_salvaged (Err why) = refuses (number_of why)

abbrev pub what_in : Line → ℕ
what_in l = l.what

abbrev pub place_in : Line → ℕ
place_in l = l.place

abbrev pub size_in : Line → ℕ
size_in l = l.bytes

-- the contract: b is the input, and t is told
pub record Salvages (b : Bytes) (t : Told Amounts) (work out what places sizes : Slice) : Type 0 where
  pub told : t ≡ salvage_told b (length work.entry.now) (length out.entry.now)
      (min (length what.entry.now) (min (length places.entry.now) (length sizes.entry.now)))
  pub free : Free work.exit.now
  pub output : out.exit.now ≡ output_after t (bytes_in (salvage page_crc b)) out.entry.now
  pub whats : what.exit.now ≡ column_after t what_in (lines_in (salvage page_crc b)) what.entry.now
  pub spots : places.exit.now ≡ column_after t place_in (lines_in (salvage page_crc b)) places.entry.now
  pub counts : sizes.exit.now ≡ column_after t size_in (lines_in (salvage page_crc b)) sizes.entry.now
