-- What the loops of the code put: entries and comments as long as they are found. Assumes nothing.
use Rattle.std.specs.Prelude.{ℕ, zero, suc, List, [], ◌∷◌, ◌++◌, ℤ}
use Rattle.octets.specs.Pick.{pick}
use Rattle.octets.specs.Octets.{Bytes}
use Rattle.text_put.specs.Marks.{line_feed}
use Rattle.refusal.specs.Told.{Told, gives, refuses}
use Rattle.head_fields.specs.declared.Head.{Head}
use Rattle.head_matrix.specs.Matrix.{entry_at}
use Rattle.head_lines.specs.Lines.{number_line, entry_text}
use Rattle.tags_layout.specs.Layout.{bytes_of, part_at, next_place, fits_at, vendor_part, first_place}
use Rattle.tags_lines.specs.Lines.{text_line, comment_line}
use Rattle.list_headers.specs.Names.{vendor_is, comments_is}
use Rattle.list_headers.specs.Text.{head_pieces}

-- one that is found, and those after it
abbrev pub with_entry : Told ℤ → List Bytes → List Bytes
with_entry (gives x) rest = entry_text x ∷ rest
with_entry (refuses n) rest = []

unfoldable pub found_entries : Bytes → ℕ → ℕ → List Bytes
found_entries m zero i = []
found_entries m (suc n) i = with_entry (entry_at m i) (found_entries m n (suc i))

-- n comments, the first one's length at this place
unfoldable pub found_comments : Bytes → ℕ → ℕ → List Bytes
found_comments b zero at = []
found_comments b (suc n) at =
    pick (fits_at b at) (comment_line (bytes_of b (part_at b at)) ∷ found_comments b n (next_place b at)) []

-- the lines of a comment header b that has n comments, as far as they are found
abbrev pub tags_found : Bytes → ℕ → List Bytes
tags_found b n =
    text_line vendor_is (bytes_of b (vendor_part b)) line_feed ∷ number_line comments_is n ∷ found_comments b n (first_place b)

-- those of both packets: the fields h and the matrix m of the first, and n comments of the second
abbrev pub both_found : Head → Bytes → Bytes → ℕ → List Bytes
both_found h m tags n = head_pieces h m ++ tags_found tags n
