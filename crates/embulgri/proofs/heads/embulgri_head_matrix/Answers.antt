-- `embulgri::heads::embulgri_head_matrix` meets its contract. Assumes nothing.
use Rattle.refusal.specs.declared.Refusal.{Refusal}
use Rattle.std.specs.Prelude.{Result, Ok, Err}
use mathlib.Core.Path.{◌≡◌, ap}
use mathlib.Core.List.{List}
use Prim.Native.Nat.{ℕ}
use borrow.Author.Rules.{rules}
use Rattle.refusal.specs.Told.{Told, retold, told}
use Rattle.head_numbers.specs.Numbers.{matrix_numbers}
use Rattle.embulgri.proofs.Answers.{answered, refused}
use Rattle.embulgri.proofs.heads.embulgri_head_matrix.Goals as goal

-- what is told of a size, as a place and a length
abbrev size-told : Result ℕ Refusal → Told (List ℕ)
size-told read = retold matrix_numbers (told read)

pub returns-in-Ok : goal.returns-in-Ok
returns-in-Ok c =
    rw c.matrix_numbers.ensures
    (answered (ap (retold matrix_numbers) c.read_size-read.ensures) (ap size-told c.in-Ok.is))

pub returns-in-Err : goal.returns-in-Err
returns-in-Err c =
    refused (ap (retold matrix_numbers) c.read_size-read.ensures) (ap size-told c.in-Err.is) c.number.ensures
