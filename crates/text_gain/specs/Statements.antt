-- What is proved of decibels, in addition to the contracts. Assumes nothing.
use Rattle.std.specs.Prelude.{◌*◌, ◌/◌, ◌%◌, ◌≡◌, ◌++◌, ℤ, nat_abs}
use Rattle.text_decimal.specs.Decimal.{decimal, number_read}
use Rattle.text_decimal.specs.Digits.{lowest}

-- the digits before and after the point, read as one number of 100,000,000ths, are the size of the gain's 256ths
abbrev pub DecibelsExact : Type 0
DecibelsExact = (g : ℤ) → number_read (decimal (nat_abs g / 256) ++ lowest 8 (nat_abs g % 256 * 390625)) * 256 ≡ nat_abs g * 100000000
