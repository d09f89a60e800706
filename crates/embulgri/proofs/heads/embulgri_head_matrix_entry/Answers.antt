-- `embulgri::heads::embulgri_head_matrix_entry` meets its contract. Assumes nothing.
use Rattle.refusal.specs.declared.Refusal.{Refusal}
use Rattle.std.specs.Prelude.{ℤ, Result, Ok, Err}
use mathlib.Core.Path.{◌≡◌, ap}
use Prim.Native.Nat.{ℕ}
use borrow.Author.Rules.{rules}
use mir.Syntax.{w16}
use mir.Val.{to_z, of_z}
use Rattle.refusal.specs.Told.{Told, retold, told}
use Rattle.embulgri.proofs.Answers.{answered, refused}
use Rattle.embulgri.proofs.heads.embulgri_head_matrix_entry.Goals as goal

-- what is told of an entry, as 16 bits
abbrev entry-told : Result ℤ Refusal → Told ℕ
entry-told read = retold (of_z w16) (told read)

pub returns-in-Ok : goal.returns-in-Ok
returns-in-Ok c =
    let x = c.in-Ok.x in
    let kept : to_z w16 (of_z w16 x) ≡ x = search rules in
    rw (c.unsigned16.ensures, kept)
    (answered (ap (retold (of_z w16)) c.read_entry-read.ensures) (ap entry-told c.in-Ok.is))

pub returns-in-Err : goal.returns-in-Err
returns-in-Err c =
    refused (ap (retold (of_z w16)) c.read_entry-read.ensures) (ap entry-told c.in-Err.is) c.number.ensures
