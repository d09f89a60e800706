-- What the search finds is the least place of all. Assumes nothing.
use Prim.Native.Nat.{ℕ, zero, suc, ◌+◌, ◌-◌, ◌≤◌, ◌<◌, min}
use mathlib.Core.Path.{◌≡◌, refl, ap, ◌∙◌}
use mathlib.Core.Bool.{Bool, true, false}
use native.Mathlib.Omega.{arith}
use lib.Dec.{eqb}
use borrow.Author.Tests.{eqb-true, eqb-false}
use lib.ListN.{length, drop}
use Rattle.octets.specs.Octets.{Bytes}
use Rattle.salvage_search.specs.Search.{starts_page, next_from}
use Rattle.salvage_search.specs.Statements.{Least, NextIsLeast}
use Rattle.salvage_search.proofs.Searching.{found, goes_on, over, begins}

module _ (crc : Bytes → ℕ) (b : Bytes) where
  -- n places are left
  least_in : (n at : ℕ) → at + n ≡ length b → Least crc b at (next_from crc at (drop at b))
  least_in zero at h =
      rw (over crc b at (omega arith))
      (record { inside = omega arith; after = λ w. omega arith; here = λ w. absurd (omega arith); none = λ k w v. absurd (omega arith) })
  least_in (suc n) at h = by (starts_page crc (drop at b)) refl (least_in n (at + 1) (omega arith))
    where
      by : (t : Bool) → starts_page crc (drop at b) ≡ t → Least crc b (at + 1) (next_from crc (at + 1) (drop (at + 1) b))
          → Least crc b at (next_from crc at (drop at b))
      by true s l =
          rw (found crc b at (omega arith) s)
          (record { inside = omega arith; after = λ w. omega arith; here = λ w. s; none = λ k w v. absurd (omega arith) })
      by false s l =
          rw (goes_on crc b at (omega arith) s)
          (record {
            inside = l.inside;
            after = λ w. let z = l.after (omega arith) in omega arith;
            here = l.here;
            none = λ (k : ℕ) w v. here_or_later k w v (eqb k at) refl;
          })
        where
          here_or_later : (k : ℕ) → at ≤ k → k < next_from crc (at + 1) (drop (at + 1) b) → (t : Bool) → eqb k at ≡ t → starts_page crc (drop k b) ≡ false
          here_or_later k w v true e = ap (λ (j : ℕ). starts_page crc (drop j b)) (eqb-true k at e) ∙ s
          here_or_later k w v false e = let z = eqb-false k at e in l.none k (omega arith) v

pub next_is_least : NextIsLeast
next_is_least crc b from = rw (← begins crc b from) (from-least (least_in crc b (length b - min from (length b)) (min from (length b)) (omega arith)))
  where
    from-least : {r : ℕ} → Least crc b (min from (length b)) r → Least crc b from r
    from-least {r} l = record {
      inside = l.inside;
      after = λ w. let z = l.after (omega arith) in omega arith;
      here = l.here;
      none = λ (k : ℕ) w v. l.none k (omega arith) v;
    }
