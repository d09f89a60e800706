-- `list_headers::put_number` meets its contract. Assumes nothing.
use Rattle.text_pieces.proofs.Laying.{one_piece}
use Rattle.head_lines.specs.Lines.{number_line}
use Rattle.list_headers.proofs.Pieces.{some_number}
use Rattle.list_headers.proofs.put_number.Goals as goal

pub returns : goal.returns
returns c =
    let a = c.args in
    let line = number_line a.name.now a.x in
    one_piece a.p line (some_number a.name.now a.x) c.after.ensures c.put_number.ensures
