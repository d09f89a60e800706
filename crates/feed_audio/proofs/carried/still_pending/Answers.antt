-- `feed_audio::carried::still_pending` meets its contract. Assumes nothing.
use mathlib.Core.Path.{◌≡◌}
use Rattle.stream.specs.declared.Pending.TheVariants.{Nothing}
use Rattle.feed_audio.proofs.carried.still_pending.Goals as goal

pub returns-in-Nothing : goal.returns-in-Nothing
returns-in-Nothing c =
    let q : c.args.pending ≡ Nothing = c.in-Nothing.is in
    rw q c.begun.ensures

pub returns-in-Held : goal.returns-in-Held
returns-in-Held c = (rw c.in-Held.is)
