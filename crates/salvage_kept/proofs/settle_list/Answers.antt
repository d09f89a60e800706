-- `salvage_kept::settle_list` meets its contract. Assumes nothing.
use Rattle.std.proofs.Common.{refl, arith, rules}
use Rattle.limits.specs.Limits.{packet_max, list_max}
use Rattle.recording.proofs.Streams.{zeros_room}
use Rattle.salvage_kept.proofs.settle_list.Goals as goal

pub settle-requires : goal.settle-requires
settle-requires c = record {
  good = c.requires;
  room = zeros_room packet_max list_max (omega arith) (omega arith);
  keeps = refl;
  spares = refl;
}
