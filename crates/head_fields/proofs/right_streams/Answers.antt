-- `head_fields::right_streams` meets its contract. Assumes nothing.
use mathlib.Core.Path.{◌≡◌, sym}
use Prim.Native.Nat.{◌+◌}
use native.Mathlib.Omega.{arith}
use Rattle.head_fields.proofs.Checks.{no_stream, too_coupled, sum_decides}
use Rattle.head_fields.proofs.right_streams.Goals as goal

pub returns-then-streams-lt1 : goal.returns-then-streams-lt1
returns-then-streams-lt1 c = sym (no_stream c.args.h (omega arith))

pub returns-then-coupled-streams : goal.returns-then-coupled-streams
returns-then-coupled-streams c = sym (too_coupled c.args.h (omega arith) (omega arith))

pub returns : goal.returns
returns c =
    let h = c.args.h in
    let sum : c.wide-coupled.result + c.wide-streams.result ≡ h.coupled + h.streams = omega arith in
    sym (sum_decides h (omega arith) (omega arith) sum)
