-- `embulgri::embulgri_tags_gain` meets its contract. Assumes nothing.
use Rattle.refusal.specs.declared.Refusal.{Refusal}
use Rattle.std.specs.Prelude.{ℤ, Result, Ok, Err}
use mathlib.Core.Path.{◌≡◌, ap}
use Prim.Native.Nat.{ℕ}
use borrow.Author.Rules.{rules}
use mir.Syntax.{w16}
use mir.Val.{to_z, of_z}
use Rattle.refusal.specs.Told.{Told, retold, told}
use Rattle.embulgri.proofs.Answers.{answered, refused}
use Rattle.embulgri.proofs.embulgri_tags_gain.Goals as goal

-- what is told of a gain, as 16 bits
abbrev gain-told : Result ℤ Refusal → Told ℕ
gain-told read = retold (of_z w16) (told read)

pub returns-in-Ok : goal.returns-in-Ok
returns-in-Ok c =
    let g = c.in-Ok.g in
    let kept : to_z w16 (of_z w16 g) ≡ g = search rules in
    rw (c.unsigned16.ensures, kept)
    (answered (ap (retold (of_z w16)) c.gain-read.ensures) (ap gain-told c.in-Ok.is))

pub returns-in-Err : goal.returns-in-Err
returns-in-Err c =
    refused (ap (retold (of_z w16)) c.gain-read.ensures) (ap gain-told c.in-Err.is) c.number.ensures
