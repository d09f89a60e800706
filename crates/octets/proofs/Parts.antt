-- Parts of a list of bytes: their ends cut to the list's, and their bytes. Assumes nothing.
use mathlib.Core.Path.{◌≡◌, refl, ap}
use mathlib.Core.List.{[], ◌∷◌}
use Prim.Native.Nat.{ℕ, zero, suc, ◌+◌, ◌≤◌, ◌<◌, min}
use native.Mathlib.Nat.{zero-min, min-zero, suc-min-suc}
use native.Mathlib.Omega.{arith}
use lib.Dec.{lit<}
use lib.ListN.{length, get_or, take, drop}
use lib.Seq.{get_or-drop, take-take}
use Rattle.octets.specs.Octets.{Bytes, Octets}

pub take_min : (n : ℕ) (s : Bytes) → take (min n (length s)) s ≡ take n s
take_min zero s = rw zero-min
take_min (suc n) [] = rw min-zero
take_min (suc n) (b ∷ s) = rw suc-min-suc (ap (λ (l : Bytes). b ∷ l) (take_min n s))

pub drop_min : (n : ℕ) (s : Bytes) → drop (min n (length s)) s ≡ drop n s
drop_min zero s = rw zero-min
drop_min (suc n) [] = rw min-zero
drop_min (suc n) (b ∷ s) = rw suc-min-suc (drop_min n s)

-- a part that ends before the list is cut
pub take_within : (k i n : ℕ) (s : Bytes) → i + k ≤ n → take k (drop i (take n s)) ≡ take k (drop i s)
take_within k zero n s h = take-take k n s (omega arith)
take_within k (suc i) zero s h = absurd (omega arith)
take_within k (suc i) (suc n) [] h = refl
take_within k (suc i) (suc n) (b ∷ s) h = take_within k i n s (omega arith)

-- a part of a list of bytes is one
pub octets-tail : {b : ℕ} {s : Bytes} → Octets (b ∷ s) → Octets s
octets-tail o = record { below = λ i. o.below (suc i) }

pub octets-drop : (n : ℕ) (s : Bytes) → Octets s → Octets (drop n s)
octets-drop n s o = record { below = λ i. rw get_or-drop (o.below (n + i)) }

take_below : (n : ℕ) (s : Bytes) → Octets s → (i : ℕ) → get_or (take n s) i 0 < 256
take_below zero s o i = lit< tt
take_below (suc n) [] o i = lit< tt
take_below (suc n) (b ∷ s) o zero = o.below 0
take_below (suc n) (b ∷ s) o (suc i) = take_below n s (octets-tail o) i

pub octets-take : (n : ℕ) (s : Bytes) → Octets s → Octets (take n s)
octets-take n s o = record { below = take_below n s o }
