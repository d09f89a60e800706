-- Writing the lines of both headers (RULES.md, 13; refusals 12, 13, 14 and 22). Assumes nothing.
use Rattle.refusal.specs.Told.{told, Told, gives, refuses, decided}
use Rattle.std.specs.Prelude.{Result, Ok, Err, ℕ, ◌≡◌, List, [], ◌∷◌, ◌++◌, ltb, length}
use Rattle.std.proofs.Math.Option.{Option, none, some}
use Rattle.octets.specs.Pick.{pick}
use Rattle.octets.specs.Octets.{Bytes}
use Rattle.refusal.specs.declared.Refusal.{Refusal}
use Rattle.refusal.specs.declared.Refusal.TheVariants.{ShortOutput}
use Rattle.refusal.specs.Checks.{Check, ◌when◌, first_of}
use Rattle.refusal.specs.Numbers.{number_of}
use Rattle.text_pieces.specs.Pieces.{Laying, begun, lay_all}
use Rattle.head_reader.specs.Fields.{head_of, matrix_of}
use Rattle.head_reader.specs.Reading as headReading
use Rattle.tags_layout.specs.Layout.{tags_of}
use Rattle.tags_reader.specs.Reading as tagsReading
use Rattle.list_headers.specs.Text.{header_pieces, header_text}

-- the two packets are read
abbrev pub both_checks : Bytes → Bytes → List Check
both_checks head tags = headReading.read_checks head ++ tagsReading.read_checks tags

-- their lines
abbrev pub pieces_of : Bytes → Bytes → List Bytes
pieces_of head tags = header_pieces (head_of head) (matrix_of head) (tags_of tags)

abbrev pub text_of : Bytes → Bytes → Bytes
text_of head tags = header_text (head_of head) (matrix_of head) (tags_of tags)

abbrev pub write_checks : Bytes → Bytes → ℕ → List Check
write_checks head tags n = both_checks head tags ++ (ShortOutput when ltb n (length (text_of head tags)) ∷ [])

unfoldable pub write_told : Bytes → Bytes → Bytes → Told ℕ
write_told head tags out = decided (first_of (write_checks head tags (length out))) (length (text_of head tags))

-- the output at the end: as it was where a packet is refused, else the pieces that fit one after the other
abbrev pub laid_in : Option Refusal → Bytes → List Bytes → Bytes
laid_in none out ss = (lay_all (begun out) ss).buffer
laid_in (some r) out ss = out

unfoldable pub write_out : Bytes → Bytes → Bytes → Bytes
write_out head tags out = laid_in (first_of (both_checks head tags)) out (pieces_of head tags)

-- what is told where both packets are read and their pieces are laid so
abbrev pub told_laid : Laying → Told ℕ
told_laid l = pick l.all (gives l.place) (refuses (number_of ShortOutput))

pub record BothPut (l : Laying) (r : Result ℕ Refusal) (end : Bytes) : Type 0 where
  pub told : told r ≡ told_laid l
  pub output : end ≡ l.buffer

-- the answer r, and the output from `out` at entry to `end` at exit
pub record Wrote (head tags out : Bytes) (r : Result ℕ Refusal) (end : Bytes) : Type 0 where
  pub told : told r ≡ write_told head tags out
  pub output : end ≡ write_out head tags out
