-- `crop_start::find_whole` meets its contract. Assumes nothing.
use native.Mathlib.Omega.{arith}
use borrow.Author.Rules.{rules}
use Rattle.limits.specs.Limits.{packet_max, list_max}
use Rattle.recording.proofs.Streams.{zeros_room}
use Rattle.crop_start.proofs.find_whole.Goals as goal

pub find_in-requires : goal.find_in-requires
find_in-requires c = record { accepted = c.requires; room = zeros_room packet_max list_max (omega arith) (omega arith) }
