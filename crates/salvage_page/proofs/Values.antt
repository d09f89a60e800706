-- Lacing values by their places: the last one, those after the first that ends a packet, and those up to the last that does.
-- Assumes nothing.
use Rattle.std.proofs.Common.{◌≡◌, ℕ, zero, suc, ◌+◌, ◌-◌, ◌<◌, ◌≤◌, Bool, true, false, not, eqb, ltb, [], ◌∷◌, length, get_or, take, drop, refl, ap, ◌∙◌, add-one, arith, drop-cons, ltb-false, ltb-true, le-ltb, lt-ltb, eq-eqb, ne_eqb}
use Rattle.octets.specs.Octets.{Bytes}
use Rattle.stream.specs.Page.{ends}
use Rattle.salvage_rules.specs.Tidy.{open_after, up_to_last}
use Rattle.salvage_page.proofs.Decided.{or-true}

-- one value more
pub next : (l : Bytes) (i : ℕ) → i < length l → drop i l ≡ get_or l i 0 ∷ drop (i + 1) l
next l i h = drop-cons l i 0 h ∙ rw add-one

-- ---- the last value

pub open_none : (o : Bool) (l : Bytes) → length l ≡ 0 → open_after o l ≡ o
unfolding open_after
open_none o [] e = refl
open_none o (v ∷ l) e = absurd (omega arith)

pub open_last : (o : Bool) (l : Bytes) (n : ℕ) → suc n ≡ length l → open_after o l ≡ not (ltb (get_or l n 0) 255)
unfolding open_after
open_last o [] n e = absurd (omega arith)
open_last o (v ∷ []) zero e = refl
open_last o (v ∷ []) (suc n) e = absurd (omega arith)
open_last o (v ∷ (w ∷ l)) zero e = absurd (omega arith)
open_last o (v ∷ (w ∷ l)) (suc n) e = open_last (not (ltb v 255)) (w ∷ l) n (omega arith)

-- a byte that is not below 255 is 255
pub full : (v : ℕ) → v < 256 → eqb v 255 ≡ not (ltb v 255)
full v h = by (ltb v 255) refl
  where
    by : (t : Bool) → ltb v 255 ≡ t → eqb v 255 ≡ not (ltb v 255)
    by true e = let less = ltb-true v 255 e in rw e (ne_eqb v 255 (λ q. omega arith))
    by false e = let more = ltb-false v 255 e in rw e (eq-eqb v 255 (omega arith))

-- ---- a value that ends a packet

pub ends-here : (v : ℕ) (l : Bytes) → v < 255 → ends (v ∷ l) ≡ true
unfolding ends
ends-here v l h = rw (lt-ltb v 255 h)

pub ends-later : (v : ℕ) (l : Bytes) → 255 ≤ v → ends (v ∷ l) ≡ ends l
unfolding ends
ends-later v l h = rw (le-ltb v 255 h)

-- ---- the values up to the last that does

ends_at_lem : (l : Bytes) (n : ℕ) → n < length l → get_or l n 0 < 255 → ends l ≡ true
unfolding ends
ends_at_lem [] n h less = absurd (omega arith)
ends_at_lem (v ∷ l) zero h less = rw (lt-ltb v 255 less)
ends_at_lem (v ∷ l) (suc n) h less = rw (ends_at_lem l n (omega arith) less) (or-true (ltb v 255))

pub up_to-none : (l : Bytes) → ends l ≡ false → up_to_last l ≡ []
unfolding up_to_last
up_to-none [] e = refl
up_to-none (v ∷ l) e = rw e

up_to : (l : Bytes) (n : ℕ) → n < length l → get_or l n 0 < 255 → ends (drop (suc n) l) ≡ false → take (suc n) l ≡ up_to_last l
unfolding up_to_last
up_to [] n h less e = absurd (omega arith)
up_to (v ∷ l) zero h less e = rw (ends-here v l less, up_to-none l e)
up_to (v ∷ l) (suc n) h less e =
    rw (ends_at_lem (v ∷ l) (suc n) h less) (ap (λ (k : Bytes). v ∷ k) (up_to l n (omega arith) less e))

pub up_to-here : (l : Bytes) (n : ℕ) → 0 < n → n ≤ length l → get_or l (n - 1) 0 < 255 → ends (drop n l) ≡ false → take n l ≡ up_to_last l
up_to-here l zero some h less e = absurd (omega arith)
up_to-here l (suc n) some h less e = let same : suc n - 1 ≡ n = omega arith in up_to l n (omega arith) (rw same at less) e

-- one value fewer
pub ends-before : (l : Bytes) (n : ℕ) → 0 < n → n ≤ length l → 255 ≤ get_or l (n - 1) 0 → ends (drop n l) ≡ false → ends (drop (n - 1) l) ≡ false
ends-before l n some h more e =
    let same : n - 1 + 1 ≡ n = omega arith in
    ap ends (next l (n - 1) (omega arith)) ∙ ends-later (get_or l (n - 1) 0) (drop (n - 1 + 1) l) more ∙ rw same e
