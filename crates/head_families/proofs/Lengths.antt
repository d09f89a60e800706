-- How long the matrix of a header is. Assumes nothing.
use mathlib.Core.Path.{◌≡◌, refl}
use mathlib.Core.Bool.{Bool, true, false}
use Prim.Native.Nat.{ℕ, ◌+◌, ◌*◌, ◌≤◌}
use native.Mathlib.Nat.{le_trans, mul-le-mul_left, mul-le-mul_right}
use native.Mathlib.Omega.{arith}
use Rattle.head_families.specs.Families.{has_matrix, matrix_length}

-- entries, of so many decoded channels
pub entries-most : (n channels : ℕ) → n ≤ 510 → channels ≤ 255 → n * channels ≤ 130050
entries-most n channels h l = le_trans (mul-le-mul_right channels h) (mul-le-mul_left 510 l)

module _ (family streams coupled channels : ℕ) where
  pub no_matrix : has_matrix family ≡ false → matrix_length family streams coupled channels ≡ 0
  unfolding matrix_length
  no_matrix e = rw e

  -- n and c are what the code computed
  pub with_matrix : {n c : ℕ} → has_matrix family ≡ true → n ≡ coupled + streams → c ≡ channels
      → 2 * (n * c) ≡ matrix_length family streams coupled channels
  unfolding matrix_length
  with_matrix e d q = rw (e, d, q)

  pub matrix-most : streams ≤ 255 → coupled ≤ 255 → channels ≤ 255 → matrix_length family streams coupled channels ≤ 260100
  unfolding matrix_length
  matrix-most s c n = either (has_matrix family) refl
    where
      either : (t : Bool) → has_matrix family ≡ t → matrix_length family streams coupled channels ≤ 260100
      either true e = rw e (omega (arith, entries-most (coupled + streams) channels (omega arith) n))
      either false e = rw e (omega arith)
