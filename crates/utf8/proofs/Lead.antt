-- Lead bytes: the bits of the number in them by the character's length, and bytes below 0x80. A rule of all bytes is one test
-- that antt computes. Assumes nothing.
use mathlib.Core.Path.{◌≡◌, refl, sym}
use mathlib.Core.Bool.{Bool, true, ◌&&◌, ◌||◌}
use mathlib.Core.Logic.{⊎_elim}
use Prim.Native.Nat.{ℕ, zero, suc, ◌+◌, ◌-◌, ◌%◌, ◌≤◌, ◌<◌}
use native.Mathlib.Nat.{not-suc-le-zero, le_of_suc-le-suc, eq-or-lt_of_le}
use native.Mathlib.Omega.{arith}
use borrow.Author.Tests.{eqb-true, ne_eqb, le-leb, lt-leb}
use lib.Count.{count_leading_zeros}
use lib.Dec.{eqb}
use Rattle.octets.specs.Pick.{pick}
use Rattle.octets.specs.Octets.{Bytes}
use Rattle.octets.proofs.Tests.{both}
use Rattle.utf8.specs.Characters.{character_length, lead_bits, tails_follow, number_with, right_number, right_character, character_of}

-- the test passes at each number below n
abbrev below : (ℕ → Bool) → ℕ → Bool
below f zero = true
below f (suc n) = f n && below f n

at : (f : ℕ → Bool) (n : ℕ) → below f n ≡ true → (k : ℕ) → k < n → f k ≡ true
at f zero t k h = absurd (not-suc-le-zero h)
at f (suc n) t k h =
    let b = both (f n) (below f n) t in
    ⊎_elim (λ e. rw e b.0) (λ l. at f n b.1 k l) (eq-or-lt_of_le (le_of_suc-le-suc h))

-- the code's choice by the length
abbrev pub bits_by : ℕ → ℕ → ℕ
bits_by n b = pick (eqb n 2) (b % 32) (pick (eqb n 3) (b % 16) (pick (eqb n 4) (b % 8) b))

test : ℕ → Bool
test b = eqb (character_length b) 0 || eqb (bits_by (character_length b) b) (lead_bits b)

tested : (b : ℕ) → b < 256 → test b ≡ true
unfolding test count_leading_zeros character_length lead_bits
tested b h = at test 256 refl b h

pub lead_bits_lem : (b n : ℕ) → b < 256 → n ≡ character_length b → 1 ≤ n → bits_by n b ≡ lead_bits b
unfolding test
lead_bits_lem b n h e l =
    rw e (eqb-true (bits_by (character_length b) b) (lead_bits b) (rw (ne_eqb (character_length b) 0 (λ z. omega arith)) at (tested b h)))

single : ℕ → Bool
single b = eqb (character_length b) 1

pub ascii_length : (b : ℕ) → b < 128 → character_length b ≡ 1
unfolding single count_leading_zeros character_length
ascii_length b h = eqb-true (character_length b) 1 (at single 128 refl b h)

pub ascii : (b : ℕ) (s : Bytes) → b < 128 → right_character b s ≡ true
unfolding right_character tails_follow number_with right_number
ascii b s h =
    let bits : b ≡ lead_bits b = lead_bits_lem b 1 (omega arith) (sym (ascii_length b h)) (omega arith) in
    rw (ascii_length b h, ← bits) (simp (le-leb 0 b (omega arith), le-leb b 0x10FFFF (omega arith), lt-leb 0xD800 b (omega arith)))

-- a byte below 0x80 is a character
pub ascii_character : (b : ℕ) (s : Bytes) → b < 128 → character_of b s ≡ record { size = 1; number = b }
unfolding character_of number_with
ascii_character b s h =
    let bits : lead_bits b ≡ b = sym (lead_bits_lem b 1 (omega arith) (sym (ascii_length b h)) (omega arith)) in
    rw (ascii b s h, ascii_length b h, bits)

-- no character begins with a byte that goes on in one
goes_on : ℕ → Bool
goes_on n = eqb (character_length (0x80 + n)) 0

pub tail-length : (b : ℕ) → 0x80 ≤ b → b ≤ 0xBF → character_length b ≡ 0
unfolding goes_on count_leading_zeros character_length
tail-length b low high =
    let same : 0x80 + (b - 0x80) ≡ b = omega arith in
    rw same at (eqb-true (character_length (0x80 + (b - 0x80))) 0 (at goes_on 64 refl (b - 0x80) (omega arith)))
