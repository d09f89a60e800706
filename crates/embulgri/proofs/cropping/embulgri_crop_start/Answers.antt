-- `embulgri::cropping::embulgri_crop_start` meets its contract. Assumes nothing.
use borrow.Author.Rules.{rules}
use Rattle.embulgri.proofs.Croppings.{start-found, start-refused}
use Rattle.embulgri.proofs.cropping.embulgri_crop_start.Goals as goal

pub returns-in-Ok : goal.returns-in-Ok
returns-in-Ok c =
    start-found _ c.find_start.result _ c.find_start.ensures c.in-Ok.found.page c.in-Ok.found.position c.in-Ok.is

pub returns-in-Err : goal.returns-in-Err
returns-in-Err c =
    start-refused _ c.find_start.result _ c.find_start.ensures c.in-Err.why _ c.in-Err.is c.number.ensures
