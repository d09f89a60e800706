-- The readings: equal to the count at first, then wrong, then no longer changing. Assumes nothing.
use mathlib.Core.Path.{◌≡◌, refl}
use mathlib.Core.Bool.{Bool, true, false}
use mathlib.Core.List.{List, [], ◌∷◌}
use Prim.Native.Nat.{ℕ, zero, suc, ◌+◌, ◌*◌, ◌/◌, ◌%◌, ◌≤◌, ◌<◌}
use native.Mathlib.Omega.{arith}
use borrow.Author.Tests.{ltb-true, ltb-false}
use lib.Dec.{ltb}
use lib.IntN.{pos}
use lib.Count.{count_trailing_zeros}
use lib.Ieee.{binary32, round, of_int, size, span, climb, units, odd}
use lib.Ieee.Exact.{HasValue}
use lib.Ieee.Back.{round_whole}
use Rattle.old_clock.specs.declared.Clock.{Clock}
use Rattle.old_clock.specs.Clock.{start_clock, right_length, most_count, advanced, add_samples, record_after, after}
use Rattle.old_clock.specs.Statements.{Reads, ReadsTrue, ReadsWrong, StandsStill}
use Rattle.old_clock.proofs.Adding.{right_length_lem, wrong-length, past-most, taken}
use Rattle.old_clock.proofs.Whole.{add-whole, exact}

-- what an addition reads: the exact sum of reading and length, rounded once
advanced-reads : (c : Clock) (a n r : ℕ) → n ≤ 5760 → Reads c a → HasValue (round binary32 false (a + n) 1) false r 1 → Reads (advanced c n) r
unfolding of_int
advanced-reads c a n r few reads sum =
    rw (add-whole binary32 c.reading (of_int binary32 (pos n)) a n reads (round_whole binary32 false n (omega arith))) sum

-- what holds of a record, and of what a right length makes of it, holds after any addition: a refusal leaves the record
module _ (P : Clock → Type 0) (c : Clock) (n : ℕ) (stays : P c) (moves : right_length n ≡ true → P (advanced c n)) where
  counted : (t : Bool) → ltb most_count (c.count + n) ≡ t → right_length n ≡ true → P (record_after c (add_samples c n))
  counted true e right = rw (past-most c n (ltb-true most_count (c.count + n) e) right) stays
  counted false e right = rw (taken c n (ltb-false most_count (c.count + n) e) right) (moves right)

  by_length : (t : Bool) → right_length n ≡ t → P (record_after c (add_samples c n))
  by_length true e = counted (ltb most_count (c.count + n)) refl e
  by_length false e = rw (wrong-length c n e) stays

  next : P (record_after c (add_samples c n))
  next = by_length (right_length n) refl

-- ---- equal to the count

-- counts are multiples of 120; those below 134,217,960 are f32 values
record Equal (c : Clock) : Type 0 where
  whole : c.count % 120 ≡ 0
  reads : c.count < 134217960 → Reads c c.count

exact_last : HasValue (round binary32 false 134217840 1) false 134217840 1
unfolding round size span climb units odd count_trailing_zeros
exact_last = (refl, refl)

exact_sum : (n : ℕ) → n % 120 ≡ 0 → n < 134217960 → HasValue (round binary32 false n 1) false n 1
exact_sum n m h = by (ltb n 134217728) refl
  where
    by : (t : Bool) → ltb n 134217728 ≡ t → HasValue (round binary32 false n 1) false n 1
    by true e =
        let small : n < 134217728 = ltb-true n 134217728 e in
        let eights : n / 8 * 8 ≡ n = omega arith in
        rw eights at (exact (n / 8) (omega arith))
    by false e =
        let large : 134217728 ≤ n = ltb-false n 134217728 e in
        let last : n ≡ 134217840 = omega arith in
        rw last exact_last

equal_next : (c : Clock) → Equal c → (n : ℕ) → right_length n ≡ true → Equal (advanced c n)
equal_next c t n e =
    let right = right_length_lem n e in
    let whole : (c.count + n) % 120 ≡ 0 = omega arith in
    record {
      whole = whole;
      reads = λ h. advanced-reads c c.count n (c.count + n) right.most (t.reads (omega arith)) (exact_sum (c.count + n) whole h);
    }

equal-after : (lengths : List ℕ) (c : Clock) → Equal c → Equal (after c lengths)
unfolding after
equal-after [] c t = t
equal-after (n ∷ lengths) c t = equal-after lengths (record_after c (add_samples c n)) (next Equal c n t (equal_next c t n))

pub reads-true : ReadsTrue
reads-true lengths h =
    let t = equal-after lengths start_clock (record { whole = refl; reads = λ h. (refl, refl) }) in
    t.reads (omega arith)

-- ---- wrong, and no longer changing

right : right_length 120 ≡ true
unfolding right_length
right = refl

-- a tie, and the even neighbour is the lower one
wrong-sum : HasValue (round binary32 false 134217960 1) false 134217952 1
unfolding round size span climb units odd count_trailing_zeros
wrong-sum = (refl, refl)

-- neighbours are 256 apart
still_sum : HasValue (round binary32 false 2147483768 1) false 2147483648 1
unfolding round size span climb units odd count_trailing_zeros
still_sum = (refl, refl)

pub reads-wrong : ReadsWrong
unfolding after
reads-wrong c room reads = rw (taken c 120 room right) (advanced-reads c 134217840 120 134217952 (omega arith) reads wrong-sum)

pub stands_still : StandsStill
unfolding after
stands_still c reads zero = reads
stands_still c reads (suc packets) =
    let still : Reads (advanced c 120) 2147483648 = advanced-reads c 2147483648 120 2147483648 (omega arith) reads still_sum in
    stands_still (record_after c (add_samples c 120)) (next (λ d. Reads d 2147483648) c 120 reads (λ e. still)) packets
