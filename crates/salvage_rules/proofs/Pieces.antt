-- Lacing values cut before the rest, or after the last that ends a packet. Assumes nothing.
use Prim.Native.Nat.{ℕ, suc, ◌+◌, ◌*◌, ◌≤◌}
use mathlib.Core.Path.{◌≡◌, refl, sym, ap, ◌∙◌}
use mathlib.Core.Bool.{Bool, true, false, ◌||◌}
use mathlib.Core.List.{[], ◌∷◌, ◌++◌}
use native.Mathlib.Omega.{arith}
use borrow.Author.Tests.{ltb-false}
use lib.Dec.{ltb}
use lib.ListN.{length}
use Rattle.octets.specs.Pick.{pick}
use Rattle.octets.specs.Octets.{Bytes, total}
use Rattle.page_lacing.specs.Lacing.{unfinished_from}
use Rattle.stream.specs.Page.{ends}
use Rattle.stream.specs.Packets.{after_first}
use Rattle.salvage_search.proofs.Starting.{true-false}
use Rattle.salvage_rules.specs.Tidy.{up_to_last, first_bytes, first_cut}

total-append : (a b : Bytes) → total (a ++ b) ≡ total a + total b
unfolding total
total-append [] b = omega arith
total-append (v ∷ a) b = let e = total-append a b in omega arith

-- ---- the values up to the first that ends a packet

unfoldable pub first_part : Bytes → Bytes
first_part [] = []
first_part (v ∷ l) = pick (ltb v 255) (v ∷ []) (v ∷ first_part l)

pub first-apart : (l : Bytes) → l ≡ first_part l ++ after_first l
unfolding first_part after_first
first-apart [] = refl
first-apart (v ∷ l) = by (ltb v 255) (first-apart l)
  where
    by : (t : Bool) → l ≡ first_part l ++ after_first l → v ∷ l ≡ pick t (v ∷ []) (v ∷ first_part l) ++ pick t l (after_first l)
    by true e = refl
    by false e = ap (λ (k : Bytes). v ∷ k) e

pub first-total : (l : Bytes) → total l ≡ total (first_part l) + total (after_first l)
first-total l = ap total (first-apart l) ∙ total-append (first_part l) (after_first l)

pub first-bytes : (l : Bytes) → first_bytes l ≡ total (first_part l)
first-bytes l = let e = first-total l in omega arith

-- ---- those after the last that does

unfoldable pub last_part : Bytes → Bytes
last_part [] = []
last_part (v ∷ l) = pick (ends (v ∷ l)) (last_part l) (v ∷ l)

pub last_apart : (l : Bytes) → l ≡ up_to_last l ++ last_part l
unfolding up_to_last last_part
last_apart [] = refl
last_apart (v ∷ l) = by (ends (v ∷ l)) (last_apart l)
  where
    by : (t : Bool) → l ≡ up_to_last l ++ last_part l → v ∷ l ≡ pick t (v ∷ up_to_last l) [] ++ pick t (last_part l) (v ∷ l)
    by true e = ap (λ (k : Bytes). v ∷ k) e
    by false e = refl

pub last-total : (l : Bytes) → total l ≡ total (up_to_last l) + total (last_part l)
last-total l = ap total (last_apart l) ∙ total-append (up_to_last l) (last_part l)

-- no packet ends
last-all : (l : Bytes) → ends l ≡ false → last_part l ≡ l
unfolding last_part
last-all [] e = refl
last-all (v ∷ l) e = rw e

last-from : (n : ℕ) (l : Bytes) → unfinished_from n l ≡ pick (ends l) (total (last_part l)) (n + total l)
unfolding unfinished_from ends last_part total
last-from n [] = omega arith
last-from n (v ∷ l) = by (ltb v 255) (ends l) refl (last-from 0 l) (last-from (n + v) l)
  where
    by : (t u : Bool) → ends l ≡ u → unfinished_from 0 l ≡ pick (ends l) (total (last_part l)) (0 + total l)
        → unfinished_from (n + v) l ≡ pick (ends l) (total (last_part l)) (n + v + total l)
        → pick t (unfinished_from 0 l) (unfinished_from (n + v) l) ≡ pick (t || ends l) (total (pick (t || ends l) (last_part l) (v ∷ l))) (n + (v + total l))
    by true true e a b = a ∙ rw e
    by true false e a b = a ∙ rw (e, last-all l e) (omega arith)
    by false true e a b = b ∙ rw e
    by false false e a b = b ∙ rw e (omega arith)

pub last-bytes : (l : Bytes) → unfinished_from 0 l ≡ total (last_part l)
last-bytes l = by (ends l) refl
  where
    by : (t : Bool) → ends l ≡ t → unfinished_from 0 l ≡ total (last_part l)
    by true e = last-from 0 l ∙ rw e
    by false e = last-from 0 l ∙ rw (e, last-all l e) (omega arith)

-- each is 255 at least
all-full : (l : Bytes) → ends l ≡ false → 255 * length l ≤ total l
unfolding ends total
all-full [] e = omega arith
all-full (v ∷ l) e = by (ltb v 255) refl e (all-full l)
  where
    by : (t : Bool) → ltb v 255 ≡ t → t || ends l ≡ false → (ends l ≡ false → 255 * length l ≤ total l) → 255 * suc (length l) ≤ v + total l
    by true h q later = true-false q
    by false h q later = let f = later q in omega (arith, ltb-false v 255 h)

pub last-many : (l : Bytes) → 255 * length (last_part l) ≤ total (last_part l)
unfolding last_part
last-many [] = omega arith
last-many (v ∷ l) = by (ends (v ∷ l)) refl (last-many l)
  where
    by : (t : Bool) → ends (v ∷ l) ≡ t → 255 * length (last_part l) ≤ total (last_part l)
        → 255 * length (pick t (last_part l) (v ∷ l)) ≤ total (pick t (last_part l) (v ∷ l))
    by true h later = later
    by false h later = all-full (v ∷ l) h

-- ---- both

-- where a packet ends, the first part is that of the values up to the last that ends one
pub same_first : (l : Bytes) → ends l ≡ true → first_part (up_to_last l) ≡ first_part l
unfolding first_part up_to_last ends
same_first [] e = true-false (sym e)
same_first (v ∷ l) e = by (ltb v 255) refl (same_first l)
  where
    by : (t : Bool) → ltb v 255 ≡ t → (ends l ≡ true → first_part (up_to_last l) ≡ first_part l)
        → first_part (pick (ltb v 255 || ends l) (v ∷ up_to_last l) []) ≡ pick t (v ∷ []) (v ∷ first_part l)
    by true h later = rw (h, h)
    by false h later =
        let z : ends l ≡ true = rw h at e in
        rw (h, z, h) (ap (λ (k : Bytes). v ∷ k) (later z))

pub same-cut : (l : Bytes) → ends l ≡ true → first_cut (up_to_last l) ≡ first_cut l
unfolding up_to_last
same-cut [] e = refl
same-cut (v ∷ l) e =
    let a : first_bytes (up_to_last (v ∷ l)) ≡ first_bytes (v ∷ l) = first-bytes (up_to_last (v ∷ l)) ∙ ap total (same_first (v ∷ l) e) ∙ sym (first-bytes (v ∷ l)) in
    rw e (ap (λ (n : ℕ). n ∷ []) (rw e at a))
