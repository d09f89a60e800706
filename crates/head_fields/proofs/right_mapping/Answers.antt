-- `head_fields::right_mapping` meets its contract. Assumes nothing.
use mathlib.Core.Path.{◌≡◌, sym, ◌∙◌}
use Prim.Native.Nat.{◌+◌}
use native.Mathlib.Omega.{arith}
use Rattle.octets.proofs.Tests.{failed, held}
use Rattle.head_fields.proofs.Checks.{wrong-channels, wrong-streams, indices_decide}
use Rattle.head_fields.proofs.right_mapping.Goals as goal

pub returns-then-not-allowed_channels : goal.returns-then-not-allowed_channels
returns-then-not-allowed_channels c =
    let call = c.allowed_channels in
    sym (wrong-channels c.args.h (failed call.ensures c.if-not-allowed_channels.true))

pub returns-then-not-right_streams : goal.returns-then-not-right_streams
returns-then-not-right_streams c =
    let channels = c.allowed_channels in
    let streams = c.right_streams in
    sym
    (wrong-streams c.args.h (held channels.ensures c.if-not-allowed_channels.false)
    (failed streams.ensures c.if-not-right_streams.true))

pub returns : goal.returns
returns c =
    let h = c.args.h in
    let sum : c.wide.result + c.wide-2.result ≡ h.coupled + h.streams = omega arith in
    c.right_indices.ensures
    ∙ sym
    (indices_decide h (held c.allowed_channels.ensures c.if-not-allowed_channels.false)
    (held c.right_streams.ensures c.if-not-right_streams.false) sum c.index_count-used.ensures.same)
