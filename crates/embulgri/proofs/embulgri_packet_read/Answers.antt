-- `embulgri::embulgri_packet_read` meets its contract. Assumes nothing.
use Rattle.packet_reader.specs.declared.Contents.{Contents}
use Rattle.refusal.specs.declared.Refusal.{Refusal}
use Rattle.std.specs.Prelude.{Result, Ok, Err}
use Prim.Native.Nat.{ℕ}
use mathlib.Core.Path.{ap}
use mathlib.Core.List.{List}
use borrow.Author.Rules.{rules}
use Rattle.refusal.specs.Told.{Told, retold, told}
use Rattle.embulgri.specs.Answers.{packet_numbers}
use Rattle.embulgri.proofs.Answers.{answered, refused}
use Rattle.embulgri.proofs.embulgri_packet_read.Goals as goal

-- what is told of a packet, as numbers
abbrev numbers_told : Result Contents Refusal → Told (List ℕ)
numbers_told r = retold packet_numbers (told r)

pub returns-in-Ok : goal.returns-in-Ok
returns-in-Ok c =
    rw c.packet_numbers.ensures
    (answered (ap (retold packet_numbers) c.read_packet-read.ensures) (ap numbers_told c.in-Ok.is))

pub returns-in-Err : goal.returns-in-Err
returns-in-Err c =
    refused (ap (retold packet_numbers) c.read_packet-read.ensures) (ap numbers_told c.in-Err.is)
    c.number.ensures
