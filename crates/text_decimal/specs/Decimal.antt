-- Numbers in decimal, as text (RULES.md, 11). Assumes nothing.
use Rattle.std.specs.Prelude.{ℕ, zero, suc, ◌+◌, ◌*◌, ◌-◌, ◌/◌, ◌%◌, [], ◌∷◌, ◌++◌, ltb}
use Rattle.octets.specs.Pick.{pick}
use Rattle.octets.specs.Octets.{Bytes}

-- a digit as a byte: "0" is 48
abbrev pub digit : ℕ → ℕ
digit d = 48 + d

-- the digits of a number that has at most n of them
unfoldable pub decimal_within : ℕ → ℕ → Bytes
decimal_within zero x = []
decimal_within (suc n) x = pick (ltb x 10) (digit x ∷ []) (decimal_within n (x / 10) ++ (digit (x % 10) ∷ []))

-- the digits of a number, with no leading zeros; 0 is "0". A number x has at most x + 1 digits
unfoldable pub decimal : ℕ → Bytes
decimal x = decimal_within (suc x) x

-- the number that digits mean, where v was read before them
unfoldable pub number_after : ℕ → Bytes → ℕ
number_after v [] = v
number_after v (b ∷ s) = number_after (v * 10 + (b - 48)) s

abbrev pub number_read : Bytes → ℕ
number_read s = number_after 0 s
