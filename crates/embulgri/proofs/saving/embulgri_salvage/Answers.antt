-- `embulgri::saving::embulgri_salvage` meets its contract. Assumes nothing.
use mathlib.Core.Path.{refl}
use borrow.Author.Rules.{rules}
use Rattle.embulgri.proofs.Savings.{salvaged_as, written-told, refused-told, counts_stay}
use Rattle.embulgri.proofs.saving.embulgri_salvage.Goals as goal

pub returns-in-Ok : goal.returns-in-Ok
returns-in-Ok c =
    let is = salvaged_as _ _ _ _ _ _ c.salvage.result c.salvage.ensures (written-told c.in-Ok.saved.bytes c.in-Ok.saved.lines c.in-Ok.is) in
    record {
      salvages = record { told = is.told; free = tt; output = is.output; whats = is.whats; spots = is.spots; counts = is.counts };
      counts = refl;
    }

pub returns-in-Err : goal.returns-in-Err
returns-in-Err c =
    let old = c.args.counts.now in
    let why = c.in-Err.why in
    let is = salvaged_as _ _ _ _ _ _ c.salvage.result c.salvage.ensures (refused-told old why c.in-Err.is c.number.ensures) in
    record {
      salvages = record { told = is.told; free = tt; output = is.output; whats = is.whats; spots = is.spots; counts = is.counts };
      counts = counts_stay old why c.number.ensures;
    }
