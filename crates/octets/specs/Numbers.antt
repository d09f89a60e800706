-- Numbers as bytes, the least significant byte first (RFC 3533, 6; RFC 7845, 5; RULES.md, 3). Assumes nothing.
use Rattle.std.specs.Prelude.{ℕ, zero, suc, ◌+◌, ◌*◌, ◌/◌, ◌%◌, [], ◌∷◌, take, drop}
use Rattle.octets.specs.Octets.{Bytes}

-- the number that bytes mean
unfoldable pub value : Bytes → ℕ
value [] = 0
value (b ∷ s) = b + 256 * value s

-- the lowest n bytes of a number
unfoldable pub octets : ℕ → ℕ → Bytes
octets zero x = []
octets (suc n) x = x % 256 ∷ octets n (x / 256)

-- the number in the n bytes from place `at` on; bytes past the end count as zero
unfoldable pub number : ℕ → Bytes → ℕ → ℕ
number n s at = value (take n (drop at s))
