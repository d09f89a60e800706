-- Whole numbers as f32 values: their sum, and which of them are exact. Assumes nothing.
use mathlib.Core.Path.{◌≡◌, sym, ◌∙◌, subst}
use mathlib.Core.Bool.{true, false}
use Prim.Native.Nat.{ℕ, ◌+◌, ◌*◌, ◌^◌, ◌<◌}
use native.Mathlib.Nat.{zero-lt-suc, mul-one, add-mul, mul_assoc, mul_comm, mul-pos, lt_of_lt_of_le}
use lib.Pow.{shl_lt}
use lib.Dec.{T, lit≤}
use lib.Ieee.{Float, nan, inf, fin, Format, binary32, add, sum, round, up, down}
use lib.Ieee.Exact.{HasValue, round_exact}
use lib.Ieee.Scale.{round_same}
use lib.Ieee.Fits.{down_pos}

true-false : true ≡ false → ⊥
true-false e = subst T e tt

cross : (a b x y : ℕ) → a * x * y + b * y * x ≡ (a + b) * (x * y)
cross a b x y = simp (add-mul, mul_assoc, mul_comm)

-- the sum of two whole numbers is rounded once, from their exact sum
pub add-whole : (f : Format) (x y : Float) (a b : ℕ) → HasValue x false a 1 → HasValue y false b 1 → add f x y ≡ round f false (a + b) 1
unfolding add sum
add-whole f nan y a b p q = absurd p
add-whole f (inf s) y a b p q = absurd p
add-whole f (fin s m e) nan a b p q = absurd q
add-whole f (fin s m e) (inf t) a b p q = absurd q
add-whole f (fin true m e) (fin t n d) a b p q = absurd (true-false p.0)
add-whole f (fin false m e) (fin true n d) a b p q = absurd (true-false q.0)
add-whole f (fin false m e) (fin false n d) a b p q =
    let h : m * up e ≡ a * down e = sym (mul-one (m * up e)) ∙ p.1 in
    let k : n * up d ≡ b * down d = sym (mul-one (n * up d)) ∙ q.1 in
    round_same f false (m * up e * down d + n * up d * down e) (down e * down d) (a + b) 1 (mul-pos (down_pos e) (down_pos d)) (zero-lt-suc 0)
    (rw (h, k, mul-one) (cross a b (down e) (down d)))

-- a multiple of 8 below 2 ^ 27 is an f32: 24 binary digits hold it without its three zeros
pub exact : (q : ℕ) → q < 2 ^ 24 → HasValue (round binary32 false (q * 8) 1) false (q * 8) 1
exact q h =
    let range : q * 2 ^ 152 < 2 ^ 277 = lt_of_lt_of_le (shl_lt 24 152 h) (lit≤ tt) in
    round_exact binary32 false (q * 8) 1 q 152 (zero-lt-suc 0) h range (mul_assoc q 8 (2 ^ 149) ∙ sym (mul-one (q * 2 ^ 152)))
