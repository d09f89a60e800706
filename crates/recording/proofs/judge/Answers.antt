-- `recording::judge` meets its contract. Assumes nothing.
use borrow.Author.Rules.{rules}
use native.Mathlib.Omega.{arith}
use Rattle.limits.specs.Limits.{packet_max}
use Rattle.recording.proofs.Streams.{zeros_room}
use Rattle.recording.proofs.judge.Goals as goal

pub judge_in-requires : goal.judge_in-requires
judge_in-requires c = zeros_room packet_max 1024 (omega arith) (omega arith)
