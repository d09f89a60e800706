-- `embulgri::index::embulgri_index_build` meets its contract. Assumes nothing.
use Rattle.refusal.specs.Told.{told}
use mathlib.Core.Path.{ap}
use borrow.Author.Rules.{rules}
use Rattle.embulgri.proofs.Indexes.{built_as, count_of_lem, refusal-told, count-stays}
use Rattle.embulgri.proofs.index.embulgri_index_build.Goals as goal

pub returns-in-Ok : goal.returns-in-Ok
returns-in-Ok c =
    let a = c.args in
    let is = built_as _ _ _ _ c.build.result c.build.ensures (ap told c.in-Ok.is) in
    record {
      builds = record { told = is.told; granule = is.granule; place = is.place; sequence = is.sequence };
      count = count_of_lem c.in-Ok.n a.count.now is.told;
    }

pub returns-in-Err : goal.returns-in-Err
returns-in-Err c =
    let a = c.args in
    let old = a.count.now in
    let is = built_as _ _ _ _ c.build.result c.build.ensures (refusal-told old c.in-Err.why c.in-Err.is c.number.ensures) in
    record {
      builds = record { told = is.told; granule = is.granule; place = is.place; sequence = is.sequence };
      count = count-stays c.number.result old is.told;
    }
