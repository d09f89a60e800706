-- What is proved of the lines of both headers. Assumes nothing.
use Rattle.std.specs.Prelude.{ℕ, ◌≡◌, length}
use Rattle.octets.specs.Octets.{Bytes, copied}
use Rattle.refusal.specs.Told.{gives}
use Rattle.list_headers.specs.Writing.{text_of, write_told, write_out}

-- where the writing is not refused, the output has the whole text at its start, and the rest of it stays
abbrev pub WritesText : Type 0
WritesText =
    (head tags out : Bytes) (n : ℕ) → write_told head tags out ≡ gives n → write_out head tags out ≡ copied out 0 (text_of head tags)
