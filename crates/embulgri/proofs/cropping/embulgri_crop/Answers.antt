-- `embulgri::cropping::embulgri_crop` meets its contract. Assumes nothing.
use borrow.Author.Rules.{rules}
use Rattle.embulgri.proofs.Croppings.{crop-written, crop-refused}
use Rattle.embulgri.proofs.cropping.embulgri_crop.Goals as goal

pub returns-in-Ok : goal.returns-in-Ok
returns-in-Ok c =
    crop-written _ _ c.crop.result _ _ _ c.crop.ensures c.in-Ok.n c.in-Ok.is

pub returns-in-Err : goal.returns-in-Err
returns-in-Err c =
    crop-refused _ _ c.crop.result _ _ _ c.crop.ensures c.in-Err.why _ c.in-Err.is c.number.ensures
