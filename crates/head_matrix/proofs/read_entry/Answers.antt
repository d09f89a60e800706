-- `head_matrix::read_entry` meets its contract. Assumes nothing.
use Rattle.std.specs.Prelude.{Err}
use mathlib.Core.Path.{◌≡◌, sym, ap, ◌∙◌}
use Prim.Native.Nat.{ℕ}
use native.Mathlib.Omega.{arith}
use Rattle.octets.specs.Octets.{Bytes}
use Rattle.refusal.specs.Numbers.{number_of}
use Rattle.head_matrix.specs.Matrix.{entry_at}
use Rattle.head_matrix.proofs.Answers.{entry-given, entry-refused}
use Rattle.head_matrix.proofs.read_entry.Goals as goal

pub returns-in_err-n : goal.returns-in_err-n
returns-in_err-n c =
    let a = c.args in
    let why = c.in_err-n.field-0.0 in
    let same : c.from_residual.result ≡ Err why = grind arith in
    rw same (entry-refused a.b.now (number_of why) (sym c.in_err-n.ensures) a.i)

pub returns : goal.returns
returns c =
    let a = c.args in
    let i : ℕ = a.i in
    c.entry_at.ensures
    ∙ ap (λ (m : Bytes). entry_at m i) c.part_of.ensures
    ∙ entry-given a.b.now c.in_ok-n.n (sym c.in_ok-n.ensures) i
