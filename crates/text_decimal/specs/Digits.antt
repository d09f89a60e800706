-- The lowest digits of a number, as the code writes them: a fixed number of digits, leading zeros too. Assumes nothing.
use Rattle.std.specs.Prelude.{ℕ, zero, suc, ◌/◌, ◌%◌, [], ◌∷◌, ◌++◌}
use Rattle.octets.specs.Octets.{Bytes}
use Rattle.text_decimal.specs.Decimal.{digit}

unfoldable pub lowest : ℕ → ℕ → Bytes
lowest zero x = []
lowest (suc n) x = lowest n (x / 10) ++ (digit (x % 10) ∷ [])
