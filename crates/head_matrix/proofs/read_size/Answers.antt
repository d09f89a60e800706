-- `head_matrix::read_size` meets its contract. Assumes nothing.
use Rattle.refusal.specs.declared.Refusal.{Refusal}
use Rattle.std.specs.Prelude.{⊤, Result, Ok, Err}
use mathlib.Core.Path.{◌≡◌, ap, ◌∙◌}
use native.Mathlib.Omega.{arith}
use Rattle.octets.specs.Octets.{Bytes}
use Rattle.refusal.specs.Told.{gives, retold}
use Rattle.head_fields.specs.Layout.{matrix_size}
use Rattle.head_reader.specs.declared.HeadRead.{HeadRead}
use Rattle.head_reader.specs.Reading.{told_by, HeadIs}
use Rattle.head_matrix.specs.Matrix.{read_size}
use Rattle.head_matrix.proofs.read_size.Goals as goal

-- what the reading told, by its verdict v
told : (b : Bytes) (r : HeadRead) (v : Result ⊤ Refusal) → HeadIs b r → r.verdict ≡ v
    → retold matrix_size (told_by v r.head) ≡ read_size b
unfolding read_size
told b r v h e = rw (← e) (ap (retold matrix_size) h.told)

pub returns-in_err-read : goal.returns-in_err-read
returns-in_err-read c =
    let why = c.in_err-read.field-0.0 in
    let same : c.from_residual.result ≡ Err why = grind arith in
    rw same (told _ _ (Err why) c.read_head-read.ensures c.in_err-read.was)

pub returns : goal.returns
returns c = ap gives c.matrix_length.ensures ∙ told _ _ (Ok tt) c.read_head-read.ensures c.in_ok-read.was
