-- `list_headers::write_headers` meets its contract: the first packet that is refused decides. Assumes nothing.
use native.Mathlib.Omega.{arith}
use Rattle.refusal.specs.declared.Refusal.{Refusal}
use Rattle.std.specs.Prelude.{⊤, Result, Ok, Err}
use Rattle.refusal.specs.Told.{told}
use mathlib.Core.Path.{◌≡◌, sym, ap, ◌∙◌}
use Rattle.octets.specs.Octets.{Bytes}
use Rattle.head_reader.specs.declared.HeadRead.{HeadRead}
use Rattle.head_reader.specs.Reading.{read_head, told_by, HeadIs}
use Rattle.list_headers.proofs.Answers.{head-refused, tags-refused, both_read}
use Rattle.list_headers.proofs.write_headers.Goals as goal

-- what the reading of the first packet told, by its verdict v
verdict-told : (b : Bytes) (r : HeadRead) (v : Result ⊤ Refusal) → HeadIs b r → r.verdict ≡ v → read_head b ≡ told_by v r.head
verdict-told b r v h e = sym h.told ∙ ap (λ (w : Result ⊤ Refusal). told_by w r.head) e

pub returns : goal.returns
returns c =
    let a = c.args in
    both_read a.head.now a.tags.now a.out.now c.read_head-read.result.head (verdict-told _ _ (Ok tt) c.read_head-read.ensures c.in_ok-read.was)
    _ c.in_ok-n.n c.put_both.result _ c.matrix.ensures
    (sym c.read_tags.ensures ∙ ap told c.in_ok-n.was) c.put_both.ensures

pub returns-in_err-n : goal.returns-in_err-n
returns-in_err-n c =
    let a = c.args in
    let why = c.in_err-n.field-0.0 in
    let same : c.from_residual-in_err-n.result ≡ Err why = grind arith in
    rw same
    (tags-refused a.head.now a.tags.now a.out.now c.read_head-read.result.head
    (verdict-told _ _ (Ok tt) c.read_head-read.ensures c.in_ok-read.was) why
    (sym c.read_tags.ensures ∙ ap told c.in_err-n.was))

pub returns-in_err-read : goal.returns-in_err-read
returns-in_err-read c =
    let a = c.args in
    let why = c.in_err-read.field-0.0 in
    let same : c.from_residual.result ≡ Err why = grind arith in
    rw same
    (head-refused a.head.now a.tags.now a.out.now why
    (verdict-told _ _ (Err why) c.read_head-read.ensures c.in_err-read.was))
