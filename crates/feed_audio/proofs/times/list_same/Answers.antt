-- `feed_audio::times::list_same` meets its contract: `Listing.antt` has a turn. Assumes nothing.
use Prim.Native.Nat.{ℕ, ◌<◌}
use mathlib.Core.Path.{◌≡◌, sym}
use native.Mathlib.Omega.{arith}
use lib.ListN.{get_or, replicate, length-replicate, get_or-replicate}
use Rattle.feed_audio.proofs.Repeated.{take-replicate}
use Rattle.feed_audio.proofs.Listing.{begins, fits_next, placeable, lists, all_listed}
use Rattle.feed_audio.proofs.times.list_same.Goals as goal

-- a turn's measure
measure : {n i : ℕ} (m : ℕ) → i < n → m ≡ get_or (replicate n m) i 0
measure {n} {i} m h = sym (get_or-replicate n i m 0 h)

pub loop-i-init : goal.loop-i-init
loop-i-init c =
    begins _ _ _ _ c.args.n (replicate c.args.n c.args.m) _ _ _ _ (length-replicate c.args.n c.args.m)
    (rw (take-replicate c.args.n c.args.m) at c.requires.fits)

pub list_one-requires : goal.list_one-requires
list_one-requires c =
    let room = c.requires in
    placeable c.loop-i.invariant c.loop-i-test.true (measure c.args.m c.loop-i-test.true) room.ends room.lengths room.kept room.frames

pub overflow_add-at : goal.overflow_add-at
overflow_add-at c =
    omega (arith, fits_next c.loop-i.invariant c.loop-i-test.true (measure c.args.m c.loop-i-test.true), c.wide-at.ensures)

pub loop-i-preserved : goal.loop-i-preserved
loop-i-preserved c =
    let room = c.requires in
    let put = c.list_one.ensures in
    rw (c.skip_after-left.ensures, c.wide-at.ensures, put.ends, put.lengths, put.kept, put.frames)
    (lists c.loop-i.invariant c.loop-i-test.true (measure c.args.m c.loop-i-test.true) room.ends room.lengths room.kept room.frames)

pub returns : goal.returns
returns c = all_listed c.loop-i.invariant c.loop-i-test.false
