-- `list_headers::put_head` meets its contract. Assumes nothing.
use mathlib.Core.Path.{◌≡◌, sym, ap, ◌∙◌}
use mathlib.Core.List.{List, ◌++◌}
use Rattle.octets.specs.Octets.{Bytes}
use Rattle.text_pieces.specs.Pieces.{Laying, laying, lay_all}
use Rattle.text_pieces.proofs.Laying.{lay_append}
use Rattle.list_headers.specs.Text.{format_pieces, sound_pieces, count_pieces, table_pieces, head_pieces}
use Rattle.list_headers.proofs.put_head.Goals as goal

-- four runs of pieces
four : (l : Laying) (a b c d : List Bytes) → lay_all (lay_all (lay_all (lay_all l a) b) c) d ≡ lay_all l (a ++ (b ++ (c ++ d)))
four l a b c d = sym (lay_append l a (b ++ (c ++ d)) ∙ lay_append (lay_all l a) b (c ++ d) ∙ lay_append (lay_all (lay_all l a) b) c d)

pub returns : goal.returns
unfolding head_pieces
returns c =
    let a = c.args in
    c.put_table.ensures
    ∙ ap (λ (l : Laying). lay_all l (table_pieces a.h a.m.now))
    (c.put_counts-p.ensures
    ∙ ap (λ (l : Laying). lay_all l (count_pieces a.h))
    (c.put_sound-p.ensures ∙ ap (λ (l : Laying). lay_all l (sound_pieces a.h)) c.put_format-p.ensures))
    ∙ four (laying a.p a.out.now)
    (format_pieces a.h) (sound_pieces a.h) (count_pieces a.h) (table_pieces a.h a.m.now)
