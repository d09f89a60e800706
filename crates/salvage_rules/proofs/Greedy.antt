-- Good pages are found by the search: the next one, and those after its end. Assumes nothing.
use Prim.Native.Nat.{ℕ, zero, suc, ◌+◌, ◌-◌, ◌≤◌, ◌<◌, min}
use mathlib.Core.Path.{◌≡◌, refl, sym, ap, ◌∙◌}
use mathlib.Core.Bool.{Bool, true, false}
use mathlib.Core.List.{List, [], ◌∷◌}
use native.Mathlib.Numerals.{add-one}
use native.Mathlib.Omega.{arith}
use lib.ListN.{length, drop, get_or}
use lib.Seq.{drop-cons}
use Rattle.octets.specs.Octets.{Bytes}
use Rattle.page_size.specs.Size.{size_of}
use Rattle.page_end.specs.Statements.{Inside}
use Rattle.page_end.proofs.Ends.{end-inside}
use Rattle.salvage_search.specs.Search.{starts_page, next_from, next_page}
use Rattle.salvage_search.proofs.Starting.{true-false, starts-size, starts_otherwise}
use Rattle.salvage_search.proofs.Searching.{found, goes_on, over}
use Rattle.salvage_rules.specs.Good.{Good, good_at, good_from}
use Rattle.salvage_rules.specs.Statements.{GoodNext, GoodThere, GoodOver}

module _ (crc : Bytes → ℕ) where
  -- bytes inside a good page
  inside-page : (k at : ℕ) (s : Bytes) → k ≤ length s → good_from crc k at s ≡ good_from crc 0 (at + k) (drop k s)
  unfolding good_from
  inside-page zero at s h = let z : at ≡ at + 0 = omega arith in ap (λ (i : ℕ). good_from crc 0 i s) z
  inside-page (suc k) at [] h = absurd (omega arith)
  inside-page (suc k) at (x ∷ s) h =
      let z : suc at + k ≡ at + suc k = omega arith in
      inside-page k (suc at) s (omega arith) ∙ ap (λ (i : ℕ). good_from crc 0 i (drop k s)) z

  no_bytes : starts_page crc [] ≡ false
  no_bytes = starts_otherwise crc [] (λ e. omega (arith, e))

pub good-there : GoodThere
unfolding good_from
good-there crc at [] h = true-false (sym h ∙ no_bytes crc)
good-there crc at (x ∷ s) h = rw h (ap (λ (l : List Good). good_at at (x ∷ s) ∷ l) (after_it (size_of (x ∷ s)) there.after there.within))
  where
    there : Inside 0 (size_of (x ∷ s)) (length (x ∷ s))
    there = end-inside (x ∷ s) 0 (size_of (x ∷ s)) (starts-size crc (x ∷ s) h)

    after_it : (n : ℕ) → 0 < n → n ≤ length (x ∷ s) → good_from crc (n - 1) (suc at) s ≡ good_from crc 0 (at + n) (drop n (x ∷ s))
    after_it zero p q = absurd (omega arith)
    after_it (suc n) p q =
        let one : suc n - 1 ≡ n = omega arith in
        let z : suc at + n ≡ at + suc n = omega arith in
        ap (λ (k : ℕ). good_from crc k (suc at) s) one ∙ inside-page crc n (suc at) s (omega arith) ∙ ap (λ (i : ℕ). good_from crc 0 i (drop n s)) z

module _ (crc : Bytes → ℕ) (b : Bytes) where
  passed_by : (at : ℕ) → at < length b → starts_page crc (drop at b) ≡ false
      → good_from crc 0 at (drop at b) ≡ good_from crc 0 (at + 1) (drop (at + 1) b)
  unfolding good_from
  passed_by at h s =
      let t : starts_page crc (get_or b at 0 ∷ drop (suc at) b) ≡ false = sym (ap (starts_page crc) (drop-cons b at 0 h)) ∙ s in
      rw (add-one at, drop-cons b at 0 h, t)

  -- n places are left
  next_in : (n at : ℕ) → at + n ≡ length b
      → good_from crc 0 at (drop at b) ≡ good_from crc 0 (next_from crc at (drop at b)) (drop (next_from crc at (drop at b)) b)
  next_in zero at h = rw (over crc b at (omega arith))
  next_in (suc n) at h = by (starts_page crc (drop at b)) refl (next_in n (at + 1) (omega arith))
    where
      by : (t : Bool) → starts_page crc (drop at b) ≡ t
          → good_from crc 0 (at + 1) (drop (at + 1) b) ≡ good_from crc 0 (next_from crc (at + 1) (drop (at + 1) b)) (drop (next_from crc (at + 1) (drop (at + 1) b)) b)
          → good_from crc 0 at (drop at b) ≡ good_from crc 0 (next_from crc at (drop at b)) (drop (next_from crc at (drop at b)) b)
      by true s later = rw (found crc b at (omega arith) s)
      by false s later = rw (goes_on crc b at (omega arith) s) (passed_by at (omega arith) s ∙ later)

same_place : (crc : Bytes → ℕ) (b : Bytes) (from : ℕ) → from ≤ length b → next_from crc from (drop from b) ≡ next_page crc b from
unfolding next_page
same_place crc b from h = let e : from ≡ min from (length b) = omega arith in ap (λ (i : ℕ). next_from crc i (drop from b)) e

pub good-next : GoodNext
good-next crc b from h =
    let here : next_from crc from (drop from b) ≡ next_page crc b from = same_place crc b from h in
    next_in crc b (length b - from) from (omega arith) ∙ ap (λ (r : ℕ). good_from crc 0 r (drop r b)) here

pub good-over : GoodOver
unfolding good_from
good-over crc at = refl
