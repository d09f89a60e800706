-- `granule::judge` meets its contract. Assumes nothing.
use mathlib.Core.Path.{◌≡◌}
use Rattle.granule.specs.declared.Position.TheVariants.{Unset, Joined, At}
use Rattle.granule.proofs.judge.Goals as goal

pub returns-in-Unset : goal.returns-in-Unset
returns-in-Unset c =
    let q : c.args.position ≡ Unset = cc in
    rw q c.judge_unset.ensures

pub returns-in-Joined : goal.returns-in-Joined
returns-in-Joined c =
    let q : c.args.position ≡ Joined = cc in
    rw q c.judge_joined.ensures

pub returns-in-At : goal.returns-in-At
returns-in-At c =
    let q : c.args.position ≡ At c.in-At.p = cc in
    rw q c.judge_at.ensures
