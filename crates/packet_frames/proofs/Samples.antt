-- The samples of a packet are few. Assumes nothing.
use Prim.Native.Nat.{ℕ, ◌*◌, ◌≤◌}
use native.Mathlib.Nat.{le_trans, mul-le-mul_left, mul-le-mul_right}

-- the samples of at most 63 frames
pub product : {m d : ℕ} → m ≤ 63 → d ≤ 2880 → m * d ≤ 181440
product {m} {d} a b = le_trans (mul-le-mul_right d a) (mul-le-mul_left 63 b)
