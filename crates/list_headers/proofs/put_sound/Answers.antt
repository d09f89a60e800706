-- `list_headers::put_sound` meets its contract: two lines, one after the other. Assumes nothing.
use mathlib.Core.Path.{◌≡◌, ap, ◌∙◌}
use borrow.Author.Rules.{rules}
use mir.Syntax.{w16}
use mir.Val.{to_z, of_z}
use Rattle.text_put.proofs.Putting.{put-known}
use Rattle.text_pieces.specs.Pieces.{Laying, laid, lay_all}
use Rattle.text_pieces.proofs.Laying.{one_piece}
use Rattle.head_lines.specs.Lines.{gain_line}
use Rattle.list_headers.proofs.Pieces.{some-gain}
use Rattle.list_headers.proofs.put_sound.Goals as goal

pub returns : goal.returns
unfolding lay_all
returns c =
    -- the gain is in its width
    let kept : to_z w16 (of_z w16 c.args.h.gain) ≡ c.args.h.gain = search rules in
    let h = c.args.h in
    let put = put-known (ap gain_line kept) c.put_gain.ensures in
    one_piece c.put_number-p.result (gain_line h.gain) (some-gain h.gain) c.after.ensures put
    ∙ ap (λ (l : Laying). laid l (gain_line h.gain)) c.put_number-p.ensures
