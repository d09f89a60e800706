-- Every line of the headers has a byte, and the lines that the code finds are those of the rules. Assumes nothing.
use mathlib.Core.Path.{◌≡◌, refl, ap}
use mathlib.Core.Bool.{Bool, true, false}
use mathlib.Core.List.{[], ◌∷◌}
use Prim.Native.Nat.{ℕ, zero, suc, ◌+◌, ◌/◌, ◌≤◌}
use native.Mathlib.Omega.{arith}
use lib.IntN.{ℤ}
use lib.ListN.{length, length-append}
use Rattle.octets.specs.Pick.{pick}
use Rattle.octets.specs.Octets.{Bytes}
use Rattle.octets.proofs.Tests.{both}
use Rattle.text_put.specs.Marks.{line_feed}
use Rattle.head_families.specs.Families.{has_matrix}
use Rattle.head_fields.specs.declared.Head.{Head}
use Rattle.head_fields.specs.Right.{used_places}
use Rattle.head_matrix.proofs.Answers.{some-entry}
use Rattle.head_lines.specs.Lines.{number_line, gain_line, mapping_line, entry_text}
use Rattle.tags_layout.specs.Layout.{next_place, fits_at, all_fit, texts_from}
use Rattle.tags_lines.specs.Lines.{text_line, comment_line}
use Rattle.list_headers.specs.Text.{entry_pieces, matrix_pieces, table_pieces, comment_pieces}
use Rattle.list_headers.specs.Code.{found_entries, found_comments}

-- ---- at least one byte

pub some_number : (name : Bytes) (x : ℕ) → 1 ≤ length (number_line name x)
unfolding number_line
some_number name x = rw (length-append, length-append) (omega arith)

pub some-gain : (g : ℤ) → 1 ≤ length (gain_line g)
unfolding gain_line
some-gain g = omega arith

pub some-mapping : (s : Bytes) → 1 ≤ length (mapping_line s)
unfolding mapping_line
some-mapping s = omega arith

pub some-entry_text : (x : ℤ) → 1 ≤ length (entry_text x)
unfolding entry_text
some-entry_text x = omega arith

pub some-text : (name text : Bytes) → 1 ≤ length (text_line name text line_feed)
unfolding text_line
some-text name text = simp length-append (omega arith)

pub some-comment : (c : Bytes) → 1 ≤ length (comment_line c)
unfolding text_line
some-comment c = omega arith

-- ---- the line of the mapping

pub mapping-line : (h : Head) (m : Bytes) → has_matrix h.family ≡ false → table_pieces h m ≡ mapping_line (used_places h) ∷ []
mapping-line h m e = ap (λ (t : Bool). pick t (matrix_pieces m) (mapping_line (used_places h) ∷ [])) e

-- ---- what is found

pub all-entries : (m : Bytes) (n i : ℕ) → i + n ≤ length m / 2 → found_entries m n i ≡ entry_pieces m n i
unfolding found_entries entry_pieces
all-entries m zero i h = refl
all-entries m (suc n) i h = rw (some-entry m i (omega arith), all-entries m n (suc i) (omega arith))

pub all-comments : (b : Bytes) (n at : ℕ) → all_fit b n at ≡ true → found_comments b n at ≡ comment_pieces (texts_from b n at)
unfolding found_comments comment_pieces texts_from all_fit
all-comments b zero at e = refl
all-comments b (suc n) at e =
    let f = both (fits_at b at) (all_fit b n (next_place b at)) e in
    rw (f.0, all-comments b n (next_place b at) f.1)
