-- The lines that show both headers, as pieces one after the other (RULES.md, 13). Assumes nothing.
use Rattle.std.specs.Prelude.{ℕ, zero, suc, ◌/◌, List, [], ◌∷◌, ◌++◌, length}
use Rattle.octets.specs.Pick.{pick}
use Rattle.octets.specs.Octets.{Bytes}
use Rattle.text_put.specs.Marks.{line_feed}
use Rattle.text_pieces.specs.Pieces.{joined}
use Rattle.head_families.specs.Families.{has_matrix}
use Rattle.head_fields.specs.declared.Head.{Head}
use Rattle.head_fields.specs.Right.{used_places}
use Rattle.head_matrix.specs.Matrix.{entry_of}
use Rattle.head_lines.specs.Lines.{number_line, gain_line, mapping_line, entry_text}
use Rattle.tags_layout.specs.Layout.{Tags}
use Rattle.tags_lines.specs.Lines.{text_line, comment_line}
use Rattle.list_headers.specs.Names.{version_is, channels_is, preskip_is, rate_is, family_is, streams_is, coupled_is}
use Rattle.list_headers.specs.Names.{matrix_is, vendor_is, comments_is}

-- ---- the identification header

abbrev pub format_pieces : Head → List Bytes
format_pieces h =
    number_line version_is h.version ∷ number_line channels_is h.channels ∷ number_line preskip_is h.preskip ∷ []

abbrev pub sound_pieces : Head → List Bytes
sound_pieces h = number_line rate_is h.rate ∷ gain_line h.gain ∷ []

abbrev pub count_pieces : Head → List Bytes
count_pieces h =
    number_line family_is h.family ∷ number_line streams_is h.streams ∷ number_line coupled_is h.coupled ∷ []

-- n entries of the matrix m, from entry i on
unfoldable pub entry_pieces : Bytes → ℕ → ℕ → List Bytes
entry_pieces m zero i = []
entry_pieces m (suc n) i = entry_text (entry_of m i) ∷ entry_pieces m n (suc i)

-- the line of a matrix
abbrev pub matrix_pieces : Bytes → List Bytes
matrix_pieces m = matrix_is ∷ (entry_pieces m (length m / 2) 0 ++ (line_feed ∷ []))

-- that of the indices, or of the matrix m
abbrev pub table_pieces : Head → Bytes → List Bytes
table_pieces h m = pick (has_matrix h.family) (matrix_pieces m) (mapping_line (used_places h) ∷ [])

unfoldable pub head_pieces : Head → Bytes → List Bytes
head_pieces h m = format_pieces h ++ (sound_pieces h ++ (count_pieces h ++ table_pieces h m))

-- ---- the comment header

unfoldable pub comment_pieces : List Bytes → List Bytes
comment_pieces [] = []
comment_pieces (c ∷ cs) = comment_line c ∷ comment_pieces cs

unfoldable pub tags_pieces : Tags → List Bytes
tags_pieces t =
    text_line vendor_is t.vendor line_feed ∷ number_line comments_is (length t.comments) ∷ comment_pieces t.comments

-- ---- both

unfoldable pub header_pieces : Head → Bytes → Tags → List Bytes
header_pieces h m t = head_pieces h m ++ tags_pieces t

abbrev pub header_text : Head → Bytes → Tags → Bytes
header_text h m t = joined (header_pieces h m t)
