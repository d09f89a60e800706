-- `page_lacing::sum_of` meets its contract. The loop's invariant: what is summed and what is left make the whole.
-- Assumes nothing.
use mathlib.Core.Path.{◌≡◌, ap, ◌∙◌}
use Prim.Native.Nat.{ℕ, ◌+◌, ◌≤◌, ◌<◌}
use native.Mathlib.Numerals.{add-one}
use native.Mathlib.Omega.{arith}
use lib.ListN.{length, take, drop, get_or, length-take, drop_of_length-le}
use lib.Seq.{drop-cons}
use Rattle.octets.specs.Octets.{Bytes, total}
use Rattle.page_lacing.proofs.sum_of.Goals as goal

few : (s : Bytes) {t : Bytes} → t ≡ take 255 s → length t ≤ 255
few s e = rw e (rw length-take (omega arith))

next : (s : Bytes) (i : ℕ) → i < length s → total (drop i s) ≡ get_or s i 0 + total (drop (i + 1) s)
unfolding total
next s i h = rw (add-one i, drop-cons s i 0 h)

none_left : (s : Bytes) (i : ℕ) → length s ≤ i → total (drop i s) ≡ 0
unfolding total
none_left s i h = ap total (drop_of_length-le s h)

pub overflow_add-n : goal.overflow_add-n
overflow_add-n c = let size = few c.args.lacing.now c.part_of-v-items.ensures in omega arith

pub loop-v-preserved : goal.loop-v-preserved
loop-v-preserved c =
    let l = c.loop-v in
    let step = next c.part_of-v-items.result.now l.v-index (omega arith) in
    (omega arith, omega arith)

pub returns : goal.returns
returns c =
    let l = c.loop-v in
    let t = c.part_of-v-items.result.now in
    let size = few c.args.lacing.now c.part_of-v-items.ensures in
    let none = none_left t l.v-index (omega arith) in
    let sum : l.n ≡ total t = omega arith in
    record { sum = sum ∙ ap total c.part_of-v-items.ensures; most = omega arith }
