-- `embulgri::checking::embulgri_check` meets its contract. Assumes nothing.
use borrow.Author.Rules.{rules}
use Rattle.embulgri.proofs.Checkings.{check-found, check-refused}
use Rattle.embulgri.proofs.checking.embulgri_check.Goals as goal

pub returns-in-Ok : goal.returns-in-Ok
returns-in-Ok c =
    check-found _ c.check.result _ _ _ _ _ c.check.ensures c.in-Ok.n c.in-Ok.is

pub returns-in-Err : goal.returns-in-Err
returns-in-Err c =
    check-refused _ c.check.result _ _ _ _ _ c.check.ensures c.in-Err.why _ c.in-Err.is c.number.ensures
