-- `embulgri::lines::embulgri_header_lines` meets its contract. Assumes nothing.
use Rattle.refusal.specs.Told.{told}
use mathlib.Core.Path.{ap}
use borrow.Author.Rules.{rules}
use Rattle.embulgri.proofs.Answers.{wrote, unwritten}
use Rattle.embulgri.proofs.lines.embulgri_header_lines.Goals as goal

pub returns-in-Ok : goal.returns-in-Ok
returns-in-Ok c =
    wrote c.write_headers-wrote.ensures.told c.write_headers-wrote.ensures.output (ap told c.in-Ok.is)

pub returns-in-Err : goal.returns-in-Err
returns-in-Err c =
    unwritten c.write_headers-wrote.ensures.told c.write_headers-wrote.ensures.output (ap told c.in-Err.is) c.number.ensures
