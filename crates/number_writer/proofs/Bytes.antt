-- The bytes that `to_le_bytes` gives are those of the definition. Assumes nothing.
use mathlib.Core.Path.{◌≡◌, refl, sym, ap, ap₂, ◌∙◌}
use mathlib.Core.List.{[], ◌∷◌}
use Prim.Native.Nat.{ℕ, zero, suc, ◌/◌, ◌%◌, ◌^◌, ◌<◌}
use native.Mathlib.Nat.{pow-zero, pow-suc, div-one, div-div-eq-div-mul}
use native.Mathlib.Omega.{arith}
use Rattle.std.specs.Int.{byte_at, bytes_low_first}
use Rattle.octets.specs.Octets.{Bytes}
use Rattle.octets.specs.Numbers.{octets}

byte : (i n : ℕ) → byte_at i n ≡ n / 256 ^ i % 256
byte zero n = rw (pow-zero 256, div-one)
byte (suc i) n = refl

from : (i k n : ℕ) → bytes_low_first i k n ≡ octets k (n / 256 ^ i)
unfolding octets
from i zero n = refl
from i (suc k) n =
    ap₂ (λ (b : ℕ) (s : Bytes). b ∷ s) (byte i n) (from (suc i) k n ∙ ap (octets k) (rw (pow-suc, div-div-eq-div-mul)))

pub lowest : (k n : ℕ) → octets k n ≡ bytes_low_first 0 k n
lowest k n = sym (from 0 k n ∙ ap (octets k) (rw (pow-zero 256, div-one)))

pub one : (n : ℕ) → n < 256 → octets 1 n ≡ n ∷ []
unfolding octets
one n h = let e : n % 256 ≡ n = omega arith in rw e
