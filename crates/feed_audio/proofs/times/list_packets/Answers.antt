-- `feed_audio::times::list_packets` meets its contract: `Listing.antt` has a turn. Assumes nothing.
use Prim.Native.Nat.{ℕ, ◌<◌}
use mathlib.Core.Path.{◌≡◌, sym}
use mathlib.Core.List.{List}
use native.Mathlib.Omega.{arith}
use lib.ListN.{get_or, take}
use lib.Seq.{get_or-take, length-take-le}
use Rattle.feed_audio.proofs.Listing.{begins, fits_next, placeable, lists, all_listed}
use Rattle.feed_audio.proofs.times.list_packets.Goals as goal

-- a turn's measure
measure : {n i : ℕ} (packed : List ℕ) → i < n → get_or packed i 0 ≡ get_or (take n packed) i 0
measure {n} {i} packed h = sym (get_or-take n packed i 0 h)

pub loop-i-init : goal.loop-i-init
loop-i-init c =
    let packed = c.args.measures.now in
    begins _ _ _ _ c.args.n (take c.args.n packed) _ _ _ _ (length-take-le c.args.n packed c.requires.measures) c.requires.fits

pub list_one-requires : goal.list_one-requires
list_one-requires c =
    let room = c.requires in
    placeable c.loop-i.invariant c.loop-i-test.true (measure c.args.measures.now c.loop-i-test.true) room.ends room.lengths room.kept room.frames

pub overflow_add-at : goal.overflow_add-at
overflow_add-at c =
    omega (arith, fits_next c.loop-i.invariant c.loop-i-test.true (measure c.args.measures.now c.loop-i-test.true), c.wide-at.ensures)

pub loop-i-preserved : goal.loop-i-preserved
loop-i-preserved c =
    let room = c.requires in
    let put = c.list_one.ensures in
    rw (c.skip_after-left.ensures, c.wide-at.ensures, put.ends, put.lengths, put.kept, put.frames)
    (lists c.loop-i.invariant c.loop-i-test.true (measure c.args.measures.now c.loop-i-test.true) room.ends room.lengths room.kept room.frames)

pub returns : goal.returns
returns c = all_listed c.loop-i.invariant c.loop-i-test.false
