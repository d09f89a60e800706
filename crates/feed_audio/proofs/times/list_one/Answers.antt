-- `feed_audio::times::list_one` meets its contract. Assumes nothing.
use mathlib.Core.Path.{refl}
use Rattle.feed_audio.proofs.times.list_one.Goals as goal

pub returns : goal.returns
returns c =
    let d = c.wide-samples.ensures in
    record { ends = rw d refl; lengths = rw d refl; kept = rw c.kept.ensures refl; frames = rw c.wide.ensures refl }
