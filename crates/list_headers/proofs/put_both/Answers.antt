-- `list_headers::put_both` meets its contract. Assumes nothing.
use Rattle.std.specs.Prelude.{Result, Ok, Err}
use mathlib.Core.Path.{◌≡◌, refl, sym, ap, ◌∙◌}
use mathlib.Core.Bool.{true, false}
use Rattle.octets.specs.Octets.{Bytes}
use Rattle.text_pieces.specs.declared.Pieces.{Pieces}
use Rattle.text_pieces.specs.Pieces.{Laying, laying, lay_all, begun}
use Rattle.text_pieces.proofs.Laying.{lay_append}
use Rattle.refusal.specs.declared.Refusal.TheVariants.{ShortOutput}
use Rattle.list_headers.specs.Text.{head_pieces}
use Rattle.list_headers.specs.Code.{tags_found, both_found}
use Rattle.list_headers.specs.Writing.{BothPut}
use Rattle.list_headers.proofs.put_both.Goals as goal

-- the answer by what was handed on
whole : (l : Laying) (p : Pieces) (end : Bytes) → laying p end ≡ l → p.whole ≡ true → BothPut l (Ok p.at) end
whole l p end e w = rw (← e) (record { told = rw w; output = refl })

short : (l : Laying) (p : Pieces) (end : Bytes) → laying p end ≡ l → p.whole ≡ false → BothPut l (Err ShortOutput) end
short l p end e w = rw (← e) (record { told = rw w; output = refl })

pub returns-then-p : goal.returns-then-p
returns-then-p c =
    -- both runs of pieces
    let laid_both : laying c.put_tags-p.result c.put_tags-p.new.out
    ≡ lay_all (begun c.args.out.now)
    (both_found c.args.h c.args.m.now c.args.tags.now c.args.n) = let a = c.args in
    let first = c.put_head-p.ensures ∙ ap (λ (p : Pieces). lay_all (laying p a.out.now) (head_pieces a.h a.m.now)) c.begin.ensures in
    c.put_tags-p.ensures
    ∙ ap (λ (l : Laying). lay_all l (tags_found a.tags.now a.n)) first
    ∙ sym (lay_append (begun a.out.now) (head_pieces a.h a.m.now) (tags_found a.tags.now a.n)) in
    whole _ c.put_tags-p.result c.put_tags-p.new.out laid_both c.if-p.true

pub returns : goal.returns
returns c =
    let laid_both : laying c.put_tags-p.result c.put_tags-p.new.out
    ≡ lay_all (begun c.args.out.now)
    (both_found c.args.h c.args.m.now c.args.tags.now c.args.n) = let a = c.args in
    let first = c.put_head-p.ensures ∙ ap (λ (p : Pieces). lay_all (laying p a.out.now) (head_pieces a.h a.m.now)) c.begin.ensures in
    c.put_tags-p.ensures
    ∙ ap (λ (l : Laying). lay_all l (tags_found a.tags.now a.n)) first
    ∙ sym (lay_append (begun a.out.now) (head_pieces a.h a.m.now) (tags_found a.tags.now a.n)) in
    short _ c.put_tags-p.result c.put_tags-p.new.out laid_both c.if-p.false
