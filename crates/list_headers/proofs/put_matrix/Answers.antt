-- `list_headers::put_matrix` meets its contract: the word, the entries and the line feed. Assumes nothing.
use mathlib.Core.Path.{◌≡◌, ap, sym, ◌∙◌}
use mathlib.Core.List.{List, [], ◌∷◌, ◌++◌}
use Prim.Native.Nat.{◌/◌}
use native.Mathlib.Omega.{arith}
use lib.ListN.{length}
use Rattle.octets.specs.Octets.{Bytes}
use Rattle.text_put.specs.Marks.{line_feed}
use Rattle.text_pieces.specs.Pieces.{Laying, laying, laid, lay_all}
use Rattle.text_pieces.proofs.Laying.{one_piece, lay_append}
use Rattle.list_headers.specs.Names.{matrix_is}
use Rattle.list_headers.specs.Text.{entry_pieces}
use Rattle.list_headers.specs.Code.{found_entries}
use Rattle.list_headers.proofs.Pieces.{all-entries}
use Rattle.list_headers.proofs.put_matrix.Goals as goal

-- one piece before the entries and one after them
around : (l : Laying) (first : Bytes) (es : List Bytes) (last : Bytes)
    → laid (lay_all (laid l first) es) last ≡ lay_all l (first ∷ (es ++ (last ∷ [])))
unfolding lay_all
around l first es last = sym (lay_append (laid l first) es (last ∷ []))

pub returns : goal.returns
returns c =
    let m = c.args.m.now in
    one_piece c.put_entries-p.result line_feed (omega arith) c.after.ensures c.put_bytes-2.ensures
    ∙ ap (λ (l : Laying). laid l line_feed)
    (c.put_entries-p.ensures
    ∙ ap (λ (l : Laying). lay_all l (found_entries m (length m / 2) 0))
    (one_piece c.args.p matrix_is (omega arith) c.after-p.ensures c.put_bytes.ensures)
    ∙ ap (lay_all (laid (laying c.args.p c.args.out.now) matrix_is)) (all-entries m (length m / 2) 0 (omega arith)))
    ∙ around (laying c.args.p c.args.out.now) matrix_is (entry_pieces m (length m / 2) 0) line_feed
