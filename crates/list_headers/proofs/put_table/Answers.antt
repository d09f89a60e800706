-- `list_headers::put_table` meets its contract. Assumes nothing.
use mathlib.Core.Path.{sym, ap, ◌∙◌}
use Rattle.text_pieces.specs.Pieces.{laying, lay_all}
use Rattle.text_pieces.proofs.Laying.{one_piece}
use Rattle.head_fields.specs.Right.{used_places}
use Rattle.head_lines.specs.Lines.{mapping_line}
use Rattle.list_headers.proofs.Pieces.{some-mapping, mapping-line}
use Rattle.list_headers.proofs.put_table.Goals as goal

pub returns-then-has_matrix : goal.returns-then-has_matrix
returns-then-has_matrix c =
    rw (sym c.has_matrix.ensures ∙ c.if-has_matrix.true) c.put_matrix.ensures

pub returns : goal.returns
unfolding lay_all
returns c =
    let a = c.args in
    let line = mapping_line (used_places a.h) in
    one_piece a.p line (some-mapping (used_places a.h)) c.after.ensures c.put_mapping.ensures
    ∙ ap (lay_all (laying a.p a.out.now))
    (sym (mapping-line a.h a.m.now (sym c.has_matrix.ensures ∙ c.if-has_matrix.false)))
