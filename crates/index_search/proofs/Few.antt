-- The probes are few: at most as many as the number of records has binary digits, and none for a target below the pre-roll.
-- Assumes nothing.
use mathlib.Core.Path.{◌≡◌, refl}
use mathlib.Core.Bool.{Bool, true, false}
use mathlib.Core.List.{List}
use mathlib.Core.Option.{Option, none, some}
use Prim.Native.Nat.{ℕ, zero, suc, ◌-◌, ◌/◌, ◌<◌, ◌≤◌}
use native.Mathlib.Omega.{arith}
use borrow.Author.Tests.{eqb-true, eqb-false, lt-ltb}
use lib.Dec.{eqb, leb, ltb}
use lib.ListN.{length, get_or, take, drop, length-take, length-drop}
use Rattle.octets.specs.Pick.{pick}
use Rattle.index_search.specs.Index.{pre_roll, first_fall, up_to, probes, at_begin, found_by, seek_in}
use Rattle.index_search.specs.Statements.{digits_by, digits, probes_in, FewProbes, NoProbes}
use Rattle.index_search.proofs.Answered.{where_falls, where_none}

part_pick : (b : Bool) (gs : List ℕ) (h : ℕ) → h ≡ length gs / 2 → (length gs ≡ 0 → ⊥) → length (pick b (drop (suc h) gs) (take h gs)) ≤ length gs / 2
part_pick true gs h e filled = simp length-drop (omega arith)
part_pick false gs h e filled = simp length-take (omega arith)

digits_go : (k n : ℕ) → eqb n 0 ≡ false → digits_by (suc k) n ≡ suc (digits_by k (n / 2))
unfolding digits_by
digits_go k n e = rw e

digits-none : (k : ℕ) → digits_by k 0 ≡ 0
unfolding digits_by
digits-none zero = refl
digits-none (suc k) = refl

-- as many digits are counted as there are, whatever enough is, and a larger number has no fewer
rises_by : (s t : Bool) (k m a b : ℕ) → ((c d : ℕ) → c ≤ d → c ≤ k → d ≤ m → digits_by k c ≤ digits_by m d) → a ≤ b → a ≤ suc k → b ≤ suc m → eqb a 0 ≡ s → eqb b 0 ≡ t → digits_by (suc k) a ≤ digits_by (suc m) b
rises_by true t k m a b rest le p q e d = rw (eqb-true a 0 e, digits-none (suc k)) (omega arith)
rises_by false true k m a b rest le p q e d = absurd (eqb-false a 0 e (let z : b ≡ 0 = eqb-true b 0 d in omega arith))
rises_by false false k m a b rest le p q e d =
    let filled : a ≡ 0 → ⊥ = eqb-false a 0 e in
    let h : digits_by k (a / 2) ≤ digits_by m (b / 2) = rest (a / 2) (b / 2) (omega arith) (omega (arith, filled)) (omega arith) in
    rw (digits_go k a e, digits_go m b d) (omega arith)

rises : (k m a b : ℕ) → a ≤ b → a ≤ k → b ≤ m → digits_by k a ≤ digits_by m b
rises zero m a b le p q = let z : a ≡ 0 = omega arith in rw (z, digits-none zero) (omega arith)
rises (suc k) zero a b le p q = let z : a ≡ 0 = omega arith in rw (z, digits-none (suc k)) (omega arith)
rises (suc k) (suc m) a b le p q = rises_by (eqb a 0) (eqb b 0) k m a b (rises k m) le p q refl refl

few_if : (t : Bool) (n limit : ℕ) (gs : List ℕ) (k : ℕ) → ((l : List ℕ) → probes n limit l ≤ digits_by (length l) (length l)) → length gs ≤ k → eqb (length gs) 0 ≡ t
    → pick t 0 (suc (probes n limit (pick (leb (get_or gs (length gs / 2) 0) limit) (drop (suc (length gs / 2)) gs) (take (length gs / 2) gs)))) ≤ digits_by k (length gs)
few_if true n limit gs k rest p e = omega arith
few_if false n limit gs zero rest p e = absurd (eqb-false (length gs) 0 e (omega arith))
few_if false n limit gs (suc k) rest p e =
    let filled : length gs ≡ 0 → ⊥ = eqb-false (length gs) 0 e in
    let part : List ℕ = pick (leb (get_or gs (length gs / 2) 0) limit) (drop (suc (length gs / 2)) gs) (take (length gs / 2) gs) in
    let size : length part ≤ length gs / 2 = part_pick (leb (get_or gs (length gs / 2) 0) limit) gs (length gs / 2) refl filled in
    let a : probes n limit part ≤ digits_by (length part) (length part) = rest part in
    let b : digits_by (length part) (length part) ≤ digits_by k (length gs / 2) = rises (length part) k (length part) (length gs / 2) size (omega arith) (omega (arith, filled)) in
    rw (digits_go k (length gs) e) (omega arith)

few-by : (n limit : ℕ) (gs : List ℕ) → probes n limit gs ≤ digits_by (length gs) (length gs)
unfolding probes
few-by zero limit gs = omega arith
few-by (suc n) limit gs = few_if (eqb (length gs) 0) n limit gs (length gs) (few-by n limit) (omega arith) refl

found-few : (n p k : ℕ) → p ≤ k → probes_in (found_by n p) ≤ k
found-few zero p k h = h
found-few (suc n) p k h = h

few_by_target : (short : Bool) (n p k : ℕ) → p ≤ k → probes_in (pick short (at_begin 0) (found_by n p)) ≤ k
few_by_target true n p k h = omega arith
few_by_target false n p k h = found-few n p k h

few_by_fall : (fall : Option ℕ) (gs : List ℕ) (target : ℕ) → first_fall gs ≡ fall
    → probes_in (seek_in gs target) ≤ digits (length gs)
few_by_fall (some i) gs target e = rw (where_falls gs target i e) (omega arith)
few_by_fall none gs target e =
    rw (where_none gs target e)
    (few_by_target (ltb target pre_roll) (up_to (target - pre_roll) gs) (probes (length gs) (target - pre_roll) gs)
    (digits (length gs)) (few-by (length gs) (target - pre_roll) gs))

pub few-probes : FewProbes
few-probes gs target = few_by_fall (first_fall gs) gs target refl

none_by_fall : (fall : Option ℕ) (gs : List ℕ) (target : ℕ) → target < pre_roll → first_fall gs ≡ fall
    → probes_in (seek_in gs target) ≡ 0
none_by_fall (some i) gs target short e = rw (where_falls gs target i e)
none_by_fall none gs target short e = rw (where_none gs target e, lt-ltb target pre_roll short)

pub no_probes : NoProbes
no_probes gs target short = none_by_fall (first_fall gs) gs target short refl
