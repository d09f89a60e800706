-- What the calls from C that put lines promise (RULES.md, 11, 13 and 14). Assumes nothing.
use Rattle.std.specs.Prelude.{ℕ, ◌-◌, ◌≡◌, List, [], ◌∷◌, length, get_or}
use Rattle.octets.specs.Octets.{Bytes}
use Rattle.list_lines.specs.Lines.{total_line}
use Rattle.list_entries.specs.declared.Listed.{Listed}
use Rattle.list_entries.specs.Entries.{lines_in, PutLines}
use Rattle.list_headers.specs.Writing.{write_told, write_out}
use Rattle.embulgri.specs.Answers.{Wrote}

-- the totals are numbers 10 to 13 of a reader
abbrev pub state_total : List ℕ → Bytes
state_total s = total_line (get_or s 10 0) (get_or s 11 0) (get_or s 12 0) (get_or s 13 0)

-- the lines of packets, in the output from `old` to `end`; `put` has their number and the place after them
pub record EntriesIn (ends lengths frames kept : List ℕ) (at : ℕ) (old end : Bytes) (put : List ℕ) : Type 0 where
  pub listed : Listed
  pub lines : PutLines old at (lines_in (length old - at) ends lengths frames kept) listed end
  pub numbers : put ≡ listed.count ∷ listed.at ∷ []

-- those of both headers
abbrev pub HeaderLines : Bytes → Bytes → ℕ → Bytes → Bytes → ℕ → ℕ → Type 0
HeaderLines head tags number out end old count =
    Wrote (write_told head tags out) (write_out head tags out) number end old count
