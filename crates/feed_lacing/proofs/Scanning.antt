-- 9 and the rest on lacing values: what a turn of `scan_from` keeps, and what a scan says. Assumes nothing.
use Rattle.std.specs.Prelude.{Option, Some, None}
use Prim.Native.Nat.{ℕ, zero, suc, ◌+◌, ◌<◌, ◌≤◌}
use mathlib.Core.Path.{◌≡◌, refl, sym, ◌∙◌}
use mathlib.Core.Bool.{Bool, true, false, not, ◌||◌, false≢true}
use Rattle.std.specs.Option.{is_some}
use mathlib.Core.List.{List, [], ◌∷◌}
use native.Mathlib.Omega.{arith}
use borrow.Author.Tests.{lt-ltb, le-ltb, ltb-true, ltb-false}
use lib.Dec.{ltb}
use lib.ListN.{length, get_or}
use Rattle.octets.specs.Pick.{pick}
use Rattle.octets.specs.Octets.{Bytes, total}
use Rattle.page_lacing.specs.Lacing.{ended_from, unfinished_from}
use Rattle.stream.specs.Packets.{too_long, any_long, long_from, after_first, is_long}
use Rattle.limits.specs.Limits.{packet_max}
use Rattle.stream.specs.declared.Pending.{Pending}
use Rattle.stream.specs.declared.Pending.TheVariants.{Nothing, Held, Dropped}
use Rattle.stream.specs.Feed.{carried_in}
use Rattle.feed_lacing.specs.Scan.{scan_of, tail_by, scan_by}

-- one value more
pub long-goes_on : (l : List ℕ) (n v : ℕ) → ltb v 255 ≡ false → long_from n (v ∷ l) ≡ long_from (n + v) l
unfolding long_from ended_from unfinished_from
long-goes_on l n v e = rw e

or_assoc : (a b c : Bool) → ((a || b) || c) ≡ (a || (b || c))
or_assoc true b c = refl
or_assoc false b c = refl

pub long-ends : (l : List ℕ) (n v : ℕ) → ltb v 255 ≡ true → long_from n (v ∷ l) ≡ (too_long (n + v) || long_from 0 l)
unfolding long_from ended_from unfinished_from any_long
long-ends l n v e = rw e (or_assoc (too_long (n + v)) (any_long (ended_from 0 l)) (too_long (unfinished_from 0 l)))

-- above the bound nothing that follows matters
above : (l : List ℕ) (n : ℕ) → packet_max < n → long_from n l ≡ true
unfolding long_from ended_from unfinished_from any_long
above [] n h = lt-ltb packet_max n h
above (v ∷ l) n h = by (ltb v 255) refl (above l (n + v))
  where
    m : packet_max < n + v
    m = omega arith

    by : (b : Bool) → ltb v 255 ≡ b → (packet_max < n + v → long_from (n + v) l ≡ true) → long_from n (v ∷ l) ≡ true
    by true e again = long-ends l n v e ∙ rw (lt-ltb packet_max (n + v) m)
    by false e again = long-goes_on l n v e ∙ again m

pub above_scan : (l : List ℕ) (n : ℕ) → packet_max < n → None ≡ scan_of n l
above_scan l n h = rw (above l n h)

pub scan_goes_on : (l : List ℕ) (n v : ℕ) → 255 ≤ v → scan_of n (v ∷ l) ≡ scan_of (n + v) l
unfolding unfinished_from
scan_goes_on l n v h = rw (long-goes_on l n v (le-ltb v 255 h), le-ltb v 255 h)

pub ends-long : (l : List ℕ) (n v : ℕ) → v < 255 → packet_max < n + v → None ≡ scan_of n (v ∷ l)
ends-long l n v h m = rw (long-ends l n v (lt-ltb v 255 h), lt-ltb packet_max (n + v) m)

pub ends-short : (l : List ℕ) (n v : ℕ) → v < 255 → n + v ≤ packet_max → scan_of n (v ∷ l) ≡ scan_of 0 l
unfolding unfinished_from
ends-short l n v h m = rw (long-ends l n v (lt-ltb v 255 h), lt-ltb v 255 h, le-ltb packet_max (n + v) m)

pub scan_end : (n : ℕ) → n ≤ packet_max → Some n ≡ scan_of n []
unfolding long_from ended_from unfinished_from any_long
scan_end n h = rw (le-ltb packet_max n h)

-- the last value ends a packet, and the sum is within the bound: no packet is too long, and none goes on
pub scan_quick : (l : Bytes) (n i : ℕ) → length l ≡ suc i → get_or l i 0 < 255 → n + total l ≤ packet_max → scan_of n l ≡ Some 0
unfolding total
scan_quick [] n i e h m = absurd (omega arith)
scan_quick (v ∷ []) n zero e h m = ends-short [] n v h (omega arith) ∙ sym (scan_end 0 (omega arith))
scan_quick (v ∷ []) n (suc i) e h m = absurd (omega arith)
scan_quick (v ∷ w ∷ l) n zero e h m = absurd (omega arith)
scan_quick (v ∷ w ∷ l) n (suc i) e h m =
    by (ltb v 255) refl (scan_quick (w ∷ l) 0 i (omega arith) h (omega arith)) (scan_quick (w ∷ l) (n + v) i (omega arith) h (omega arith))
  where
    by : (b : Bool) → ltb v 255 ≡ b → scan_of 0 (w ∷ l) ≡ Some 0 → scan_of (n + v) (w ∷ l) ≡ Some 0 → scan_of n (v ∷ w ∷ l) ≡ Some 0
    by true t p q = ends-short (w ∷ l) n v (ltb-true v 255 t) (omega arith) ∙ p
    by false t p q = scan_goes_on (w ∷ l) n v (ltb-false v 255 t) ∙ q

-- the first value that ends a packet
pub after-goes_on : (l : Bytes) (v : ℕ) → 255 ≤ v → after_first (v ∷ l) ≡ after_first l
unfolding after_first
after-goes_on l v h = rw (le-ltb v 255 h)

pub after-ends : (l : Bytes) (v : ℕ) → v < 255 → after_first (v ∷ l) ≡ l
unfolding after_first
after-ends l v h = rw (lt-ltb v 255 h)

-- ---- what a scan says

scan_is : (pending : Pending) (l carry : Bytes) → scan_by pending l ≡ pick (is_long (carried_in pending carry) l) None (Some (tail_by pending l))
scan_is Nothing l carry = refl
scan_is (Held n) l carry = refl
scan_is Dropped l carry = refl

module _ (pending : Pending) (l carry : Bytes) where
  pub scan_long : None ≡ scan_by pending l → is_long (carried_in pending carry) l ≡ true
  scan_long e = by (is_long (carried_in pending carry) l) (e ∙ scan_is pending l carry)
    where
      by : (b : Bool) → None ≡ pick b None (Some (tail_by pending l)) → b ≡ true
      by true e = refl
      by false e = let z : ◌≡◌ {A = ℕ} 0 1 = cc in absurd (omega arith)

  pub scan_short : (rest : ℕ) → Some rest ≡ scan_by pending l → (is_long (carried_in pending carry) l ≡ false) × (rest ≡ tail_by pending l)
  scan_short rest e = by (is_long (carried_in pending carry) l) (e ∙ scan_is pending l carry)
    where
      by : (b : Bool) → Some rest ≡ pick b None (Some (tail_by pending l)) → (b ≡ false) × (rest ≡ tail_by pending l)
      by true e = let z : ◌≡◌ {A = ℕ} 0 1 = cc in absurd (omega arith)
      by false e = (refl, cc)

  pub none_is_long : (r : Option ℕ) (t : Bool) → r ≡ scan_by pending l → is_some r ≡ not t → t ≡ is_long (carried_in pending carry) l
  none_is_long None true e n = sym (scan_long e)
  none_is_long (Some rest) false e n = sym (scan_short rest e).0
  none_is_long None false e n = absurd (false≢true n)
  none_is_long (Some rest) true e n = absurd (false≢true (sym n))
