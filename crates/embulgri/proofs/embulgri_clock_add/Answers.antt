-- `embulgri::embulgri_clock_add` meets its contract. Assumes nothing.
use Rattle.refusal.specs.Told.{told}
use mathlib.Core.Path.{ap}
use borrow.Author.Rules.{rules}
use Rattle.embulgri.proofs.Answers.{answered, refused}
use Rattle.embulgri.proofs.embulgri_clock_add.Goals as goal

pub returns-in-Ok : goal.returns-in-Ok
returns-in-Ok c =
    answered c.add-added.ensures (ap told c.in-Ok.is)

pub returns-in-Err : goal.returns-in-Err
returns-in-Err c =
    refused c.add-added.ensures (ap told c.in-Err.is) c.number.ensures
