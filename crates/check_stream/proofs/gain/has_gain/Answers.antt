-- `check_stream::gain::has_gain` meets its contract. Assumes nothing.
use mathlib.Core.Path.{ap, ◌∙◌}
use native.Mathlib.Omega.{arith}
use borrow.Author.Rules.{rules}
use Rattle.limits.specs.Limits.{packet_max}
use Rattle.tags_replaygain.specs.ReplayGain.{has_replay_gain}
use Rattle.check_stream.proofs.Gathering.{can_gather, taken_out}
use Rattle.check_stream.proofs.gain.has_gain.Goals as goal

pub gather-size-requires : goal.gather-size-requires
gather-size-requires c = can_gather c.args.stream.now c.args.headers packet_max (omega arith) c.requires

pub returns : goal.returns
returns c =
    c.has_replaygain.ensures
    ∙ ap has_replay_gain (c.part_of.ensures ∙ taken_out c.args.stream.now c.args.headers packet_max (omega arith) c.requires _ _ c.gather-size.ensures)
