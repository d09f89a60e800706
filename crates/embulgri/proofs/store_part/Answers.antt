-- `embulgri::store_part` meets its contract. Assumes nothing.
use Rattle.tags_layout.specs.declared.Part.{Part}
use Rattle.refusal.specs.declared.Refusal.{Refusal}
use Rattle.std.specs.Prelude.{Result, Ok, Err}
use mathlib.Core.Path.{refl, ap}
use mathlib.Core.List.{List}
use Prim.Native.Nat.{ℕ}
use borrow.Author.Rules.{rules}
use Rattle.refusal.specs.Told.{Told, retold, told}
use Rattle.embulgri.specs.Answers.{part_numbers}
use Rattle.embulgri.proofs.Answers.{answered, refused}
use Rattle.embulgri.proofs.store_part.Goals as goal

-- what is told of a part, as numbers
abbrev part-told : Result Part Refusal → Told (List ℕ)
part-told found = retold part_numbers (told found)

pub returns-in-Ok : goal.returns-in-Ok
returns-in-Ok c = answered refl (ap part-told c.in-Ok.is)

pub returns-in-Err : goal.returns-in-Err
returns-in-Err c = refused refl (ap part-told c.in-Err.is) c.number.ensures
