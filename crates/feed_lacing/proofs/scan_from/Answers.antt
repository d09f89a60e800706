-- `feed_lacing::scan_from` meets its contract: `Scanning.antt` has the ways of a turn. Assumes nothing.
use Prim.Native.Nat.{ℕ, ◌+◌, ◌<◌}
use mathlib.Core.Path.{◌≡◌, refl}
use native.Mathlib.Omega.{arith}
use lib.ListN.{length, drop, drop_of_length-le}
use Rattle.feed_lacing.proofs.Values.{next}
use Rattle.feed_lacing.proofs.Scanning.{above_scan, scan_end, scan_goes_on, ends-long, ends-short}
use Rattle.feed_lacing.proofs.scan_from.Goals as goal
use Rattle.feed_lacing.proofs.scan_from.Goals.{then-v-lt255+else-bytes-gt-PACKET_MAX-2, else-v-lt255}

pub loop-x-init : goal.loop-x-init
loop-x-init c = refl

pub returns-then-bytes-gt-PACKET_MAX : goal.returns-then-bytes-gt-PACKET_MAX
returns-then-bytes-gt-PACKET_MAX c = rw c.loop-x.invariant (above_scan _ _ c.if-bytes-gt-PACKET_MAX.true)

pub returns-then-bytes-gt-PACKET_MAX-2 : goal.returns-then-bytes-gt-PACKET_MAX-2
returns-then-bytes-gt-PACKET_MAX-2 c =
    let at = c.loop-x in
    let l = c.args.lacing.now in
    let v : ℕ = c.wide-v.result in
    rw (at.invariant, next l at.x-index v (omega arith) c.wide-v.ensures.same)
    (ends-long (drop (at.x-index + 1) l) at.bytes v c.if-v-lt255.true c.if-bytes-gt-PACKET_MAX-2.true)

pub loop-x-preserved : goal.loop-x-preserved
loop-x-preserved c =
    let at = c.loop-x in
    let l = c.args.lacing.now in
    let v : ℕ = c.wide-v.result in
    let in_l : at.x-index < length l = omega arith in
    elim c.if-v-lt255.branch [
      | then-v-lt255+else-bytes-gt-PACKET_MAX-2 w ↦
          let z : c.if-v-lt255.bytes ≡ 0 = cc in
          rw (z, at.invariant, next l at.x-index v in_l c.wide-v.ensures.same) (ends-short (drop (at.x-index + 1) l) at.bytes v w.if-v-lt255.true w.if-bytes-gt-PACKET_MAX-2.false)
      | else-v-lt255 w ↦
          let z : c.if-v-lt255.bytes ≡ at.bytes + v = cc in
          rw (z, at.invariant, next l at.x-index v in_l c.wide-v.ensures.same) (scan_goes_on (drop (at.x-index + 1) l) at.bytes v w.if-v-lt255.false)
    ]

pub returns-then-bytes-gt-PACKET_MAX-3 : goal.returns-then-bytes-gt-PACKET_MAX-3
returns-then-bytes-gt-PACKET_MAX-3 c = rw c.loop-x.invariant (above_scan _ _ c.if-bytes-gt-PACKET_MAX-3.true)

pub returns-else-bytes-gt-PACKET_MAX-3 : goal.returns-else-bytes-gt-PACKET_MAX-3
returns-else-bytes-gt-PACKET_MAX-3 c =
    let l = c.args.lacing.now in
    rw (c.loop-x.invariant, drop_of_length-le l c.loop-x-test.false) (scan_end c.loop-x.bytes c.if-bytes-gt-PACKET_MAX-3.false)
