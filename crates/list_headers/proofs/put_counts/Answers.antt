-- `list_headers::put_counts` meets its contract: three lines, one after the other. Assumes nothing.
use mathlib.Core.Path.{ap, ◌∙◌}
use Rattle.text_pieces.specs.Pieces.{Laying, laid, lay_all}
use Rattle.head_lines.specs.Lines.{number_line}
use Rattle.list_headers.specs.Names.{streams_is, coupled_is}
use Rattle.list_headers.proofs.put_counts.Goals as goal

pub returns : goal.returns
unfolding lay_all
returns c =
    let h = c.args.h in
    c.put_number.ensures
    ∙ ap (λ (l : Laying). laid l (number_line coupled_is h.coupled))
    (c.put_number-p-2.ensures ∙ ap (λ (l : Laying). laid l (number_line streams_is h.streams)) c.put_number-p.ensures)
