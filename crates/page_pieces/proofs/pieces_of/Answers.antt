-- `page_pieces::pieces_of` meets its contract: `Turns.antt` has the loop's invariant and a turn's two ways.
-- Assumes nothing.
use mathlib.Core.Path.{◌≡◌}
use Prim.Native.Nat.{ℕ, ◌+◌, ◌≤◌}
use native.Mathlib.Omega.{arith}
use lib.ListN.{length, set, take, length-take}
use Rattle.octets.specs.Octets.{Bytes}
use Rattle.page_pieces.proofs.Turns.{begins, goes_on, ends, done-count, done-lengths, done-unfinished}
use Rattle.page_pieces.proofs.pieces_of.Goals as goal
use Rattle.page_pieces.proofs.pieces_of.Goals.{then-ends, else-ends}

few : (s : Bytes) {t : Bytes} → t ≡ take 255 s → length t ≤ 255
few s e = rw e (rw length-take (omega arith))

pub loop-b-init : goal.loop-b-init
loop-b-init c = begins _

pub overflow_add-bytes : goal.overflow_add-bytes
overflow_add-bytes c = let size = few c.args.lacing.now c.part_of-b-items.ensures in omega arith

pub offset_bounds-lengths-count : goal.offset_bounds-lengths-count
offset_bounds-lengths-count c = let size = few c.args.lacing.now c.part_of-b-items.ensures in omega arith

pub bounds-lengths-count : goal.bounds-lengths-count
bounds-lengths-count c = let size = few c.args.lacing.now c.part_of-b-items.ensures in omega arith

pub overflow_add-count : goal.overflow_add-count
overflow_add-count c = let size = few c.args.lacing.now c.part_of-b-items.ensures in omega arith

pub loop-b-preserved : goal.loop-b-preserved
loop-b-preserved c =
    let at = c.loop-b in
    let v : ℕ = c.from-v.result in
    let size = few c.args.lacing.now c.part_of-b-items.ensures in
    let e = c.from-v.ensures in
    elim c.if-ends.branch [
      | then-ends w ↦
          let a : c.if-ends.lengths ≡ set at.lengths at.count (at.bytes + v) = cc in
          let m : c.if-ends.count ≡ at.count + 1 = cc in
          let z : c.if-ends.bytes ≡ 0 = cc in
          rw (a, m, z) (ends at.invariant e (omega arith) w.if-ends.true (omega arith))
      | else-ends w ↦
          let a : c.if-ends.lengths ≡ at.lengths = cc in
          let m : c.if-ends.count ≡ at.count = cc in
          let z : c.if-ends.bytes ≡ at.bytes + v = cc in
          rw (a, m, z) (goes_on at.invariant e (omega arith) w.if-ends.false (omega arith))
    ]

pub returns : goal.returns
returns c =
    let t = c.part_of-b-items.result.now in
    let size : length t ≤ 255 = few c.args.lacing.now c.part_of-b-items.ensures in
    let over : length t ≤ c.loop-b.b-index = omega arith in
    let d = c.loop-b.invariant in
    let e = c.part_of-b-items.ensures in
    record {
      count = rw e at (done-count d over size);
      lengths = rw e at (done-lengths d over size);
      unfinished = rw e at (done-unfinished d over size);
    }
