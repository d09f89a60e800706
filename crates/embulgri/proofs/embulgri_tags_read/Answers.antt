-- `embulgri::embulgri_tags_read` meets its contract. Assumes nothing.
use Rattle.refusal.specs.Told.{told}
use mathlib.Core.Path.{ap}
use borrow.Author.Rules.{rules}
use Rattle.embulgri.proofs.Answers.{answered, refused}
use Rattle.embulgri.proofs.embulgri_tags_read.Goals as goal

pub returns-in-Ok : goal.returns-in-Ok
returns-in-Ok c =
    answered c.read_tags-read.ensures (ap told c.in-Ok.is)

pub returns-in-Err : goal.returns-in-Err
returns-in-Err c =
    refused c.read_tags-read.ensures (ap told c.in-Err.is) c.number.ensures
