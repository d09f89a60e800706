-- `feed_audio::packets::first_piece` meets its contract: `Turns.antt` has the ways of a turn. Assumes nothing.
use Prim.Native.Nat.{◌+◌}
use mathlib.Core.Path.{◌≡◌, sym}
use native.Mathlib.Omega.{arith}
use lib.ListN.{length, drop, drop_of_length-le}
use Rattle.feed_audio.proofs.Turns.{past-none, piece_open, piece-goes_on, piece-ends}
use Rattle.feed_lacing.proofs.Values.{next}
use Rattle.feed_audio.proofs.packets.first_piece.Goals as goal

pub loop-i-init : goal.loop-i-init
loop-i-init c = (past-none _, omega arith)

pub overflow_add-bytes : goal.overflow_add-bytes
overflow_add-bytes c = omega (arith, c.loop-i.invariant.1)

pub returns-then-v-lt255 : goal.returns-then-v-lt255
returns-then-v-lt255 c =
    let at = c.loop-i in
    let l = c.args.lacing.now in
    let v = c.wide-v.result in
    rw (at.invariant.0, next l at.i v (omega arith) c.wide-v.ensures.same) (sym (piece-ends (drop (at.i + 1) l) at.i at.bytes v c.if-v-lt255.true))

pub loop-i-preserved : goal.loop-i-preserved
loop-i-preserved c =
    let at = c.loop-i in
    let l = c.args.lacing.now in
    let v = c.wide-v.result in
    (rw (at.invariant.0, next l at.i v (omega arith) c.wide-v.ensures.same) (piece-goes_on (drop (at.i + 1) l) at.i at.bytes v c.if-v-lt255.false), omega arith)

pub returns : goal.returns
returns c =
    let at = c.loop-i in
    let l = c.args.lacing.now in
    let all : at.i ≡ length l = omega (arith, at.auto.i-end, c.loop-i-test.false) in
    rw (← all, at.invariant.0, drop_of_length-le l c.loop-i-test.false) (sym (piece_open at.i at.bytes))
